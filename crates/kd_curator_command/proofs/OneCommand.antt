-- A command line means at most one command.
use Rattle.std.proofs.Common.{get_or}
use Rattle.std.proofs.lemmas.Fmt.{decimal_injective}
use Rattle.std.specs.Prelude.{◌≤◌, length, nat_eq}
use Rattle.kd_curator_command.proofs.Prelude.{[], ◌∷◌, ◌≡◌, ℕ, false, List, Option, Some, None, Row, NamedCommand, IsMeant, codes}
use Rattle.kd_curator_command.proofs.Prelude.{HasDay, HasDays}
use Rattle.kd_curator_command.proofs.Prelude.{IsCommandOf, IsTaskOf}
use Rattle.kd_curator_command.proofs.Prelude.{ap, arith, refl, same_Some, subcommand_of, subst, sym, ◌∙◌}
use Rattle.kd_curator_command.specs.CommandLine.{CommandLinesMeanOneCommand, curator_grammar}
use Rattle.kd_curator_command.specs.Days.{days_named}
use Rattle.kd_curator_command.specs.declared.command.Task.{Task}
use Rattle.kd_curator_command.specs.declared.command.Task.TheVariants as tasks
use Rattle.kd_curator_command.proofs.CommandLines.{apart, message_apart, missing, name_of, name_said, same_direction}
use Rattle.clap.specs.Words.{all_of}
use Rattle.kd_tables.specs.declared.direction.Direction.{Direction}
use Rattle.kd_tables.specs.declared.direction.Direction.TheVariants as directions
use Rattle.kd_curator_command.specs.declared.command.MessageTask.{MessageTask}
use Rattle.kd_curator_command.specs.declared.command.Command.TheVariants as commands
use Rattle.kd_pictures.specs.declared.results.Results.{Results}
use Rattle.kd_pictures.specs.declared.results.Results.TheVariants.{LeftOpen, Shown}
use Rattle.kd_curator_command.specs.CommandLine.{HasForm, HasMessage, HasResults, IsEmptySheetOf, IsSheetOf}
use Rattle.kd_options.specs.TableOptions.{OptionTexts}
use Rattle.kd_tables.specs.Tables.{model_text}
use Rattle.kd_sheet.proofs.ReadBack.Described.KeyValues.{model_found}
use Rattle.kd_sheet.specs.Names.{find_by_text}
use Rattle.kd_tables.specs.declared.model.Model.TheVariants.{EnigmaI, M3, M4, M209}
use Rattle.kd_tables.specs.declared.model.Model.{Model}
use Rattle.kd_options.specs.declared.table_form.TableForm.{TableForm}
use Rattle.kd_options.specs.declared.table_form.TableForm.TheVariants as forms

same_days : (rows : List Row) (one other : Option (List ℕ)) → HasDays rows one → HasDays rows other → one ≡ other
same_days rows None None first second = refl
same_days rows None (Some days) none (word, is, named) = absurd (missing rows (codes "DAYS") word none is)
same_days rows (Some days) None (word, is, named) none = absurd (missing rows (codes "DAYS") word none is)
same_days rows (Some days) (Some more) (word, is, named) (other, also, again) =
    let same = same_Some word other (sym is ∙ also) in
    ap Some (same_Some days more (sym named.named ∙ ap days_named same ∙ again.named))

same_day : (rows : List Row) (one other : ℕ) → HasDay rows one → HasDay rows other → one ≡ other
same_day rows one other first second =
    decimal_injective one other (omega (arith, first.1.last)) (omega (arith, second.1.last))
    (same_Some _ _ (sym first.0 ∙ second.0))

same_task : (rows : List Row) (name : List ℕ) (one other : Task) → IsTaskOf (name, rows) one
    → IsTaskOf (name, rows) other → one ≡ other
same_task rows name (tasks.Page days) (tasks.Page more) first second =
    ap tasks.Page (same_days rows days more first.arguments second.arguments)
same_task rows name (tasks.List one) (tasks.List other) first second =
    ap tasks.List (same_day rows one other first.arguments second.arguments)
same_task rows name (tasks.Page days) (tasks.List other) first second =
    absurd (apart 0 (codes "page") (codes "list") refl (sym first.name ∙ second.name))
same_task rows name (tasks.List one) (tasks.Page days) first second =
    absurd (apart 0 (codes "page") (codes "list") refl (sym second.name ∙ first.name))

same_parts : (machine other sheet more : List ℕ) (task next : Task) → machine ≡ other → sheet ≡ more → task ≡ next
    → ◌≡◌ {A = NamedCommand} (commands.OnMachine machine sheet task) (commands.OnMachine other more next)
same_parts machine other sheet more task next is are same = cc

same_results : (rows : List Row) (one other : Results) → HasResults rows one → HasResults rows other → one ≡ other
same_results rows Shown Shown first second = refl
same_results rows Shown LeftOpen first second = absurd (first second)
same_results rows LeftOpen Shown first second = absurd (second first)
same_results rows LeftOpen LeftOpen first second = refl

same_work : (task next : MessageTask) → task.direction ≡ next.direction → task.day ≡ next.day
    → task.results ≡ next.results → task ≡ next
same_work task next is are shown =
    λ i. record { direction = is i; day = are i; results = shown i }

same_message : (machine other sheet more message last : List ℕ) (task next : MessageTask) → machine ≡ other
    → sheet ≡ more → message ≡ last → task ≡ next
    → ◌≡◌ {A = NamedCommand} (commands.Message machine sheet message task) (commands.Message other more last next)
same_message machine other sheet more message last task next is are too same = cc

one_message : (rows : List Row) (direction : Direction) (message last : List ℕ) → HasMessage rows direction message
    → HasMessage rows direction last → message ≡ last
one_message rows directions.Send message last first second =
    ap (λ l. get_or l 0 []) (same_Some _ _ (sym first ∙ second))
one_message rows directions.Receive message last first second = same_Some _ _ (sym first ∙ second)

same_orders : (machine other sheet more : List ℕ) (orders others : List (List ℕ)) (task next : MessageTask)
    → machine ≡ other → sheet ≡ more → orders ≡ others → task ≡ next
    → ◌≡◌ {A = NamedCommand} (commands.Orders machine sheet (record { items = orders }) task)
    (commands.Orders other more (record { items = others }) next)
same_orders machine other sheet more orders others task next is are too same =
    λ i. commands.Orders (is i) (are i) (record { items = too i }) (same i)

-- one order isn't several orders
one_or_several : (rows : List Row) (message : List ℕ) (orders : List (List ℕ)) (direction : Direction)
    → HasMessage rows direction message → direction ≡ directions.Send → all_of (codes "ORDER") rows ≡ Some orders
    → 2 ≤ length orders → ⊥
one_or_several rows message orders direction has same are several =
    let one = subst (λ d. HasMessage rows d message) same has in
    let alike = ap length (same_Some _ _ (sym one ∙ are)) in absurd (omega (arith, alike, several))

same_form : (rows : List Row) (one other : TableForm) → HasForm rows one → HasForm rows other → one ≡ other
same_form rows forms.Page forms.Page first second = refl
same_form rows forms.Page forms.Csv first second = absurd (first second)
same_form rows forms.Csv forms.Page first second = absurd (second first)
same_form rows forms.Csv forms.Csv first second = refl

same_table : (sheet other : List ℕ) (form next : TableForm) → sheet ≡ other → form ≡ next
    → ◌≡◌ {A = NamedCommand} (commands.Table sheet form) (commands.Table other next)
same_table sheet other form next is same = cc

same_model : (model other : Model) → model_text model ≡ model_text other → model ≡ other
same_model model other is = same_Some model other
    (sym (model_found model) ∙ ap (find_by_text model_text (EnigmaI ∷ M3 ∷ M4 ∷ M209 ∷ [])) is ∙ model_found other)

same_filled : (table other : List ℕ) (options more : OptionTexts) → table ≡ other → options ≡ more
    → ◌≡◌ {A = NamedCommand} (commands.Sheet table options) (commands.Sheet other more)
same_filled table other options more is same =
    subst (λ o. ◌≡◌ {A = NamedCommand} (commands.Sheet table options) (commands.Sheet other o)) same
    (ap (λ t. commands.Sheet t options) is)

same_empty : (model other : Model) (days more : ℕ) → model ≡ other → days ≡ more
    → ◌≡◌ {A = NamedCommand} (commands.EmptySheet model days) (commands.EmptySheet other more)
same_empty model other days more is same =
    subst (λ d. ◌≡◌ {A = NamedCommand} (commands.EmptySheet model days) (commands.EmptySheet other d)) same
    (ap (λ m. commands.EmptySheet m days) is)

-- a sheet to fill in has a model's name where a sheet of a table has none
filled_or_empty : (said : List ℕ × List Row) (table : List ℕ) (options : OptionTexts) (model : Model) (days : ℕ)
    → IsSheetOf said table options → IsEmptySheetOf said model days → ⊥
filled_or_empty said table options model days filled empty =
    let wrong : None ≡ Some empty.model_word = sym filled.filled ∙ empty.empty in cc

-- commands whose names differ in their third letters aren't meant by the same words
unlike : (said : List ℕ × List Row) (one other : NamedCommand) → IsCommandOf said one → IsCommandOf said other
    → nat_eq (get_or (name_of one) 2 0) (get_or (name_of other) 2 0) ≡ false → ⊥
unlike said one other first second differ =
    apart 2 (name_of one) (name_of other) differ (sym (name_said said one first) ∙ name_said said other second)

same_command : (said : List ℕ × List Row) (one other : NamedCommand) → IsCommandOf said one → IsCommandOf said other
    → one ≡ other
same_command said (commands.OnMachine machine sheet task) (commands.OnMachine other more next) first second =
    same_parts machine other sheet more task next (same_Some _ _ (sym first.machine ∙ second.machine))
    (same_Some _ _ (sym first.sheet ∙ second.sheet)) (same_task said.1 said.0 task next first.task second.task)
same_command said (commands.Message machine sheet message task) (commands.Message other more last next) first second =
    let same = same_direction task.direction next.direction (sym first.name ∙ second.name) in
    let named = subst (λ d. HasMessage said.1 d message) same first.message in
    same_message machine other sheet more message last task next
    (same_Some _ _ (sym first.machine ∙ second.machine)) (same_Some _ _ (sym first.sheet ∙ second.sheet))
    (one_message said.1 next.direction message last named second.message)
    (same_work task next same (same_day said.1 task.day next.day first.day second.day)
    (same_results said.1 task.results next.results first.results second.results))
same_command said (commands.Orders machine sheet orders task) (commands.Orders other more others next) first second =
    same_orders machine other sheet more orders.items others.items task next
    (same_Some _ _ (sym first.machine ∙ second.machine)) (same_Some _ _ (sym first.sheet ∙ second.sheet))
    (same_Some _ _ (sym first.orders ∙ second.orders))
    (same_work task next (first.task.same ∙ sym second.task.same)
    (same_day said.1 task.day next.day first.task.day second.task.day)
    (same_results said.1 task.results next.results first.task.results second.task.results))
same_command said (commands.Message machine sheet message task) (commands.Orders other more orders next) first second =
    absurd (one_or_several said.1 message orders.items task.direction first.message
    (same_direction task.direction directions.Send (sym first.name ∙ second.name)) second.orders second.several)
same_command said (commands.Orders machine sheet orders task) (commands.Message other more message next) first second =
    absurd (one_or_several said.1 message orders.items next.direction second.message
    (same_direction next.direction directions.Send (sym second.name ∙ first.name)) first.orders first.several)
same_command said (commands.TypingPage machine) (commands.TypingPage other) first second =
    ap (λ m. commands.TypingPage m) (same_Some _ _ (sym first.machine ∙ second.machine))
same_command said (commands.Table sheet form) (commands.Table other next) first second =
    same_table sheet other form next (same_Some _ _ (sym first.sheet ∙ second.sheet))
    (same_form said.1 form next first.form second.form)
same_command said (commands.Sheet table options) (commands.Sheet other more) first second =
    same_filled table other options more (same_Some _ _ (sym first.table ∙ second.table))
    (first.options ∙ sym second.options)
same_command said (commands.Sheet table options) (commands.EmptySheet model days) first second =
    absurd (filled_or_empty said table options model days first second)
same_command said (commands.EmptySheet model days) (commands.Sheet table options) first second =
    absurd (filled_or_empty said table options model days second first)
same_command said (commands.EmptySheet model days) (commands.EmptySheet other more) first second =
    let words : first.model_word ≡ second.model_word = same_Some _ _ (sym first.empty ∙ second.empty) in
    let numbers : first.days_word ≡ second.days_word = same_Some _ _ (sym first.table ∙ second.table) in
    same_empty model other days more
    (same_model model other (first.month.named ∙ words ∙ sym second.month.named))
    (decimal_injective days more (omega (arith, first.month.within.last)) (omega (arith, second.month.within.last))
    (first.month.numbered ∙ numbers ∙ sym second.month.numbered))
same_command said (commands.Look files) (commands.Look others) first second =
    ap (λ items. commands.Look (record { items = items })) (first.files ∙ sym second.files)
same_command said (commands.OnMachine machine sheet (tasks.Page days)) (commands.Message a b c d) first second =
    absurd (message_apart d.direction (codes "page") refl refl (sym second.name ∙ first.task.name))
same_command said (commands.OnMachine machine sheet (tasks.List day)) (commands.Message a b c d) first second =
    absurd (message_apart d.direction (codes "list") refl refl (sym second.name ∙ first.task.name))
same_command said (commands.Message a b c d) (commands.OnMachine machine sheet (tasks.Page days)) first second =
    absurd (message_apart d.direction (codes "page") refl refl (sym first.name ∙ second.task.name))
same_command said (commands.Message a b c d) (commands.OnMachine machine sheet (tasks.List day)) first second =
    absurd (message_apart d.direction (codes "list") refl refl (sym first.name ∙ second.task.name))
same_command said (commands.OnMachine machine sheet (tasks.Page days)) other first second =
    absurd (unlike said (commands.OnMachine machine sheet (tasks.Page days)) other first second refl)
same_command said (commands.OnMachine machine sheet (tasks.List day)) other first second =
    absurd (unlike said (commands.OnMachine machine sheet (tasks.List day)) other first second refl)
same_command said one (commands.OnMachine machine sheet (tasks.Page days)) first second =
    absurd (unlike said one (commands.OnMachine machine sheet (tasks.Page days)) first second refl)
same_command said one (commands.OnMachine machine sheet (tasks.List day)) first second =
    absurd (unlike said one (commands.OnMachine machine sheet (tasks.List day)) first second refl)
same_command said (commands.Message machine sheet message task) other first second =
    absurd (message_apart task.direction (name_of other) refl refl (sym first.name ∙ name_said said other second))
same_command said other (commands.Message machine sheet message task) first second =
    absurd (message_apart task.direction (name_of other) refl refl (sym second.name ∙ name_said said other first))
same_command said one other first second = absurd (unlike said one other first second refl)

same_meant : (said : Option (List ℕ × List Row)) (one other : NamedCommand) → IsMeant said one → IsMeant said other
    → one ≡ other
same_meant None one other first second = absurd first
same_meant (Some said) one other first second = same_command said one other first second

pub one_command : CommandLinesMeanOneCommand
one_command words one other first second =
    same_meant (subcommand_of curator_grammar words) one other first.said second.said
