-- Commands, and the values of their arguments as clap finds them.
use Rattle.kd_command.proofs.Prelude.{◌≡◌, ◌≢◌, ℕ, List, Option, Some, None, Bor, decimal, option_map, sym, ap, ◌∙◌}
use Rattle.kd_command.proofs.Prelude.{Result, Ok, IfSome, IfOk, true, [], refl, subst, App, FailsBy, HasKind, HasMatchesOf}
use Rattle.kd_command.proofs.Prelude.{Row, fault_of, first_of, first_value, is_simple, is_simple_and_free, kind_of}
use Rattle.kd_command.proofs.Prelude.{rows_of, subcommand_of, subcommand_rows_of, same_Some, IsDayNumber}
use Rattle.kd_command.proofs.Prelude.{NamedCommand, IsCommandOf, IsCommandLineOf, arith}
use Rattle.clap.proofs.{OnLiterals.clap_on_literals, WalkLemmas.first_value-rows}
use Rattle.clap.specs.declared.error.{Error.Error, kind.ErrorKind.TheVariants.OutOfMemory}
use Rattle.kd_command.specs.declared.command.NoCommand.TheVariants.{Usage}
use Rattle.clap.specs.declared.parser.matches.{ArgMatches.ArgMatches, Found.Found}
use Rattle.{kd_command.specs.{CommandLine.desk_grammar, declared.command.Command.Command, declared.command.NoCommand.NoCommand}, std.proofs.Common.ok_or}

-- a command with borrowed file names
abbrev LentCommand : Type 0
LentCommand = Command (Bor (List ℕ)) (Bor (List ℕ))

-- clap's getters read the first value that an argument has in the rows of the matches
pub read_none : (found : Found) (id : List ℕ) (word : Option (Bor (List ℕ)))
    → option_map (λ s. s.now) word ≡ first_value found id → word ≡ None → first_of id (rows_of found) ≡ None
read_none found id word reads none = sym (first_value-rows found id) ∙ sym reads ∙ ap (option_map (λ s. s.now)) none

pub read_some : (found : Found) (id : List ℕ) (word : Option (Bor (List ℕ))) (read : Bor (List ℕ))
    → option_map (λ s. s.now) word ≡ first_value found id → word ≡ Some read
    → first_of id (rows_of found) ≡ Some read.now
read_some found id word read reads some =
    sym (first_value-rows found id) ∙ sym reads ∙ ap (option_map (λ s. s.now)) some

-- an argument that isn't a day's number isn't the text of any day
pub other_word : (found : Found) (id : List ℕ) (word : Option (Bor (List ℕ))) (read : Bor (List ℕ))
    → option_map (λ s. s.now) word ≡ first_value found id → word ≡ Some read
    → ((day : ℕ) → IsDayNumber day → read.now ≢ decimal day) → (day : ℕ) → IsDayNumber day
    → first_of id (rows_of found) ≢ Some (decimal day)
other_word found id word read reads some other day within is =
    other day within (same_Some _ _ (sym (read_some found id word read reads some) ∙ is))

-- the grammar is simple enough that clap's contract says all about it
pub grammar_is_simple : is_simple_and_free desk_grammar ≡ true
unfolding clap_on_literals desk_grammar
grammar_is_simple = refl

pub grammar_is_known : is_simple desk_grammar ≡ true
unfolding clap_on_literals desk_grammar
grammar_is_known = refl

-- what clap's contract says of simple grammars holds for the desk's grammar
pub parse_fails_by : (app : App) (words : List (List ℕ)) (result : Result ArgMatches Error) → app ≡ desk_grammar
    → (is_simple_and_free app ≡ true → FailsBy (fault_of app words) result)
    → FailsBy (fault_of desk_grammar words) result
parse_fails_by app words result is fails =
    subst (λ a. FailsBy (fault_of a words) result) is (fails (ap is_simple_and_free is ∙ grammar_is_simple))

pub parse_takes : (app : App) (words : List (List ℕ)) (m : ArgMatches) → app ≡ desk_grammar
    → (is_simple_and_free app ≡ true → FailsBy (fault_of app words) (Ok m)) → fault_of desk_grammar words ≡ []
parse_takes app words m is fails = parse_fails_by app words (Ok m) is fails

pub parse_enters : (app : App) (words : List (List ℕ)) (m : ArgMatches) → app ≡ desk_grammar → HasMatchesOf app words m
    → subcommand_rows_of m ≡ subcommand_of desk_grammar words
parse_enters app words m is has = (subst (λ a. HasMatchesOf a words m) is has grammar_is_known).1

pub no_fault_said : (words : List (List ℕ)) (error : Error) → HasKind (fault_of desk_grammar words) error
    → kind_of error ≢ OutOfMemory → (command : NamedCommand) → IsCommandLineOf words command → ⊥
no_fault_said words error has other command says = let kinds = rw says.taken at has in grind (arith, other)

pub no_subcommand_said : (words : List (List ℕ)) → subcommand_of desk_grammar words ≡ None → (command : NamedCommand)
    → IsCommandLineOf words command → ⊥
no_subcommand_said words none command says = rw none at says.said

pub said_subcommand : (words : List (List ℕ)) (said : List ℕ × List Row) → fault_of desk_grammar words ≡ []
    → subcommand_of desk_grammar words ≡ Some said → (command : NamedCommand) → IsCommandOf said command
    → IsCommandLineOf words command
said_subcommand words said taken e command is = record { taken = taken; said = rw e is }

-- a command's name and its rows, known one by one, are known as a pair
pub name_with_rows : {X : Type 0} (entered : Option X) (name : X → List ℕ) (rows : X → List Row) (n : List ℕ)
    (r : List Row)
    → Some n ≡ option_map name entered → Some r ≡ option_map (λ (p : List ℕ × List Row). p.1)
    (option_map {U = List ℕ × List Row} (λ x. (name x, rows x)) entered)
    → option_map {U = List ℕ × List Row} (λ x. (name x, rows x)) entered ≡ Some (n, r)
name_with_rows entered name rows n r is is_rows = grind (arith)

-- what holds of a command that was found holds of the answer, if the answer is `Ok`
pub ok_said : (said : Option LentCommand) (answer : Result LentCommand NoCommand) (P Q : LentCommand → Type 0)
    → answer ≡ ok_or said Usage
    → ((command : LentCommand) → P command → Q command) → IfSome said P → IfOk answer Q
ok_said said answer P Q e d g = grind arith
