-- The program's grammar as it is built, argument by argument and command by command.
use Rattle.kd_curator_command.proofs.Prelude.{arith, ◌≡◌, ◌∙◌, [], ◌∷◌, ◌++◌, ℕ, List, false, ap, ap₂, sym, subst, App}
use Rattle.kd_curator_command.proofs.Prelude.{app_of, map, rule_of, app_of_fields, Arg, Bor, Rule, Shape, IsMadeOf, Some}
use Rattle.kd_curator_command.proofs.Prelude.{true}
use Rattle.clap.specs.{Built.AddsArg, Built.AddsSubcommand, Simple.new_app, Simple.with_subcommand, Simple.new_shape}
use Rattle.clap.specs.declared.builder.command.Command.{Command, TheOpen.Command-F, TheViews.out-Command}
use Rattle.{kd_curator_command.specs.CommandLine.rule_of_argument, std.proofs.lemmas.List.map-append}
use Rattle.kd_curator_command.specs.declared.grammar.Argument.{Argument}

-- the argument's rule, once the argument is required
abbrev pub required_rule : Rule → Rule
required_rule rule = record rule { required = true }

-- the argument's rule, once its value has a name
abbrev pub named_rule : Rule → Rule
named_rule rule = record rule { value_names = 1 }

-- the command `name` with these arguments
abbrev pub shape_with : List ℕ → List Argument → Shape
shape_with name arguments = record (new_shape name) { rules = map rule_of_argument arguments }

-- one more argument
pub one_argument_more : {old new : Command} (name : List ℕ) (arguments : List Argument) (word : Arg) (more : Argument)
    → IsMadeOf old (shape_with name arguments) → rule_of word ≡ rule_of_argument more → word.global ≡ false
    → AddsArg old word new → IsMadeOf new (shape_with name (arguments ++ more ∷ []))
one_argument_more name arguments word more has rule local adds = record {
  made = grind (arith, map-append);
  local = grind arith;
}

-- `new`, the grammar `old` with the command `sub` added, has the commands of `app` and then the command `shape`
pub one_command_more : {app : App} {old sub new : Command} {shape : Shape}
    → app_of old ≡ app → IsMadeOf sub shape → AddsSubcommand old sub new → app_of new ≡ with_subcommand app shape
one_command_more is has adds = adds.shape has.local ∙ ap₂ with_subcommand is (ap (λ (a : App). a.top) has.made)

abbrev with_about : Command-F Command → Bor (List ℕ) → Command-F Command
with_about fields text = record fields { about = Some text }

-- a command without arguments, with a text about it
pub first_shape : {name : List ℕ} (new old : Command) (text : Bor (List ℕ)) → app_of old ≡ new_app name
    → (out-Command old).has_globals ≡ false → out-Command new ≡ with_about (out-Command old) text
    → IsMadeOf new (shape_with name [])
first_shape {name = name} new old text is local made = record {
  made = subst (λ fields. app_of_fields fields ≡ new_app name) (sym made) is;
  local = ap (λ (fields : Command-F Command). fields.has_globals) made ∙ local;
}
