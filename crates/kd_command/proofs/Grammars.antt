-- The desk's grammar as it is built: without help, argument by argument and command by command.
use Rattle.kd_command.proofs.Prelude.{arith, ◌≡◌, ◌∙◌, [], ◌∷◌, ◌++◌, ℕ, List, true, false, ap, ap₂, sym, subst, App}
use Rattle.kd_command.proofs.Prelude.{app_of, rule_of, new_rule, app_of_fields, Arg, Bor}
use Rattle.clap.specs.{Built.AddsArg, Built.AddsSubcommand, Simple.new_app, Simple.with_subcommand}
use Rattle.clap.specs.declared.builder.command.Command.{Command, TheOpen.Command-F, TheViews.out-Command}
use Rattle.{kd_command.specs.Inner.{IsMadeOf, borrowed_shape}, std.proofs.lemmas.List.map-append}

abbrev pub without_help : App → App
without_help a = record a { top = record a.top { disable_help_flag = true } }

abbrev no_help : Command-F Command → Command-F Command
no_help fields = record fields { disable_help_flag = true }

pub app_without_help : (old new : Command) (app : App) → out-Command new ≡ no_help (out-Command old) → app_of old ≡ app
    → app_of new ≡ without_help app
app_without_help old new app made is =
    subst (λ fields. app_of_fields fields ≡ without_help app) (sym made) (ap without_help is)

pub local_without_help : (old new : Command) → out-Command new ≡ no_help (out-Command old)
    → (out-Command old).has_globals ≡ false → (out-Command new).has_globals ≡ false
local_without_help old new made local = ap (λ (fields : Command-F Command). fields.has_globals) made ∙ local

pub first_word : {name : List ℕ} (new old : Command) → app_of old ≡ new_app name → (out-Command old).has_globals ≡ false
    → out-Command new ≡ no_help (out-Command old) → IsMadeOf new name []
first_word new old is local made = record {
  shape = app_without_help old new _ made is;
  local = local_without_help old new made local;
}

pub one_word_more : {name : List ℕ} {words : List (Bor (List ℕ))} {old new : Command} (word : Arg) (more : Bor (List ℕ))
    → IsMadeOf old name words → rule_of word ≡ new_rule more.now → word.global ≡ false → AddsArg old word new
    → IsMadeOf new name (words ++ more ∷ [])
one_word_more word more has rule local adds = record { shape = grind (arith, map-append); local = grind arith }

-- `new`, the grammar `old` with the command `sub` added, has the commands of `app` and then the command `name`
pub one_command_more : {name : List ℕ} {words : List (Bor (List ℕ))} {app : App} {old sub new : Command}
    → app_of old ≡ app
    → IsMadeOf sub name words → AddsSubcommand old sub new
    → app_of new ≡ with_subcommand app (borrowed_shape name words)
one_command_more is has adds = adds.shape has.local ∙ ap₂ with_subcommand is (ap (λ (a : App). a.top) has.shape)
