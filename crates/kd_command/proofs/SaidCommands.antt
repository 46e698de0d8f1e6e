-- A command's name and the values of its arguments determine at most one command.
use Rattle.kd_command.proofs.Prelude.{◌≡◌, ℕ, List, arith, same_Some, Row, NamedCommand, NamedAction, IsActionOf}
use Rattle.kd_command.proofs.Prelude.{IsCommandOf, IsCommandLineOf, IsSomeAnd, Option, subcommand_of}
use Rattle.{kd_command.specs.CommandLine.desk_grammar, std.proofs.lemmas.Fmt.decimal_injective}

same_action : (said : List ℕ × List Row) (one other : NamedAction) → IsActionOf said one → IsActionOf said other
    → one ≡ other
same_action said one other is are = grind (arith, same_Some, decimal_injective)

pub same_command : (said : List ℕ × List Row) (one other : NamedCommand) → IsCommandOf said one
    → IsCommandOf said other → one ≡ other
same_command said one other is are = grind (arith, same_Some, same_action)

said_by : (said : Option (List ℕ × List Row)) (one other : NamedCommand) → IsSomeAnd said (λ x. IsCommandOf x one)
    → IsSomeAnd said (λ x. IsCommandOf x other) → one ≡ other
said_by said one other e d = grind (arith, same_command)

-- a command line means at most one command
pub said_command : (words : List (List ℕ)) (one other : NamedCommand) → IsCommandLineOf words one
    → IsCommandLineOf words other → one ≡ other
said_command words one other says same = said_by (subcommand_of desk_grammar words) one other says.said same.said
