-- The cards and the files of a month.
use Rattle.kd_desk.proofs.Prelude.{Applies, AreSettings, Carried, Day, IfOk, IsCard}
use Rattle.kd_desk.proofs.Prelude.{IsLegalDay, IsMachine, IsTrue, LacksMemory, Leads, List, OfCard, Ok}
use Rattle.kd_desk.proofs.Prelude.{Option, Parts, Port, PriceParts, Result, Setting, Some, [], ap, arith}
use Rattle.kd_desk.proofs.Prelude.{begins_as_card, day_number, inl, inr, machine_of, refl, subst, sym, ℕ, ◌∙◌, ◌∷◌, ◌≡◌}
use Rattle.kd_desk.proofs.{Applying.of_read, Days.{found_in_files, found_on, found_once, in_files, on_day}}
use Rattle.kd_desk.proofs.{Exclusions.one_list, Printing.printed}
use Rattle.kd_host.proofs.Failing.{in_whole}
use Rattle.kd_sheet.specs.declared.fault.SheetFault.TheVariants.{NoMemory}
use Rattle.kd_host.specs.Writing.{WritesText}
use Rattle.kd_desk.specs.declared.fault.DeskFault.TheVariants.{Device}
use Rattle.{kd_desk.proofs.Prelude.◌⊎◌, kd_plan.specs.Planned.IsProvedPlannedCard}
use Rattle.{kd_tables.specs.declared.model.Model.Model}
use Rattle.kd_desk.specs.{Laws.{MonthsAreFewest, MonthsSetTheMachine}, RunCard.{IsChosenCard, Prints, WritesCard}}
use Rattle.kd_desk.specs.Month.{AreWritten, CanWriteDays, CardAndFile, SetTheMachine, sink_with}
use Rattle.kd_desk.specs.Inner.{CanWriteDay}
use Rattle.kd_desk.specs.Month.{success, AreCardsOf, AreDaysOf, SetTheMachineInTurn}
use Rattle.kd_card.{proofs.Months.cards_are_fewest_in_all, specs.Months.{DayAfterDay, IsProvedCard}}
use Rattle.kd_card.specs.declared.prices.PriceParts.TheVariants.{Cables}
use Rattle.kd_sheet.proofs.ReadBack.Described.{machine_of-IsMachine, sheet_of-legal}
use Rattle.{kd_prices.specs.KindCards.IsByKind}
use Rattle.{kd_state.proofs.Carrying.{leads_unique, lists_keep_machines}}
use Rattle.kd_sheet.specs.{Laws.WrittenFilesAreReadBack, MachineText.machine_text, declared.fault.SheetFault.SheetFault}
use Rattle.{kd_sheet.specs.{Sheet.{HasDayOf, day_of}, SheetFile.sheet_of}, std.proofs.Common.All}
use Rattle.std.proofs.lemmas.List.Elements.{All-cons, All-nil, All-tail}
use Rattle.kd_card.specs.CardText.{card_text}
use Rattle.kd_card.specs.declared.card.Card as declared

-- ---- cards and files that are written set the machine

card_printed : (m : Parts) (s : Day) (number : ℕ) (sink : Port)
    → Prints (IsChosenCard m s number) m s number sink success
    → WritesCard (IsChosenCard m s number) number sink success
card_printed m s number sink prints = grind (arith)

record IsCarried (m : Parts) (bytes : List ℕ) (sink : Port) : Type 0 where
  settings : List Setting
  n : Parts
  of_card : AreSettings bytes settings
  leads : Leads m settings n
  back : machine_of (machine_text n) ≡ Ok n
  written : WritesText Device (machine_text n) sink success

IsCarried-applied : (m : Parts) (bytes : List ℕ) (sink : Port) → Applies m bytes sink success → IsCarried m bytes sink
IsCarried-applied m bytes sink applies = grind (arith)

begins_as_card-card : (text : List ℕ) (day : ℕ) (settings : List Setting) (prices : PriceParts)
    → IsCard text day settings prices
    → IsTrue (begins_as_card text)
begins_as_card-card text day settings (Cables row col) card =
    subst (λ bytes. IsTrue (begins_as_card bytes)) (sym card.text) refl
begins_as_card-card text day settings _ card = subst (λ bytes. IsTrue (begins_as_card bytes)) (sym card.text) refl

settings_of : (text : List ℕ) (day : ℕ) (settings : List Setting) (prices : PriceParts)
    → IsCard text day settings prices → AreSettings text settings
settings_of text day settings prices card = OfCard (begins_as_card-card text day settings prices card) day prices card

Applies-no_memory : (m : Parts) (bytes : List ℕ) (sink : Port) → Applies m bytes sink success ⊎ LacksMemory success
    → Applies m bytes sink success
Applies-no_memory m bytes sink (inl applies) = applies
Applies-no_memory m bytes sink (inr lacks) = absurd (cc)

SetTheMachine-written : (file sheet : List ℕ) (number : ℕ) (papers : CardAndFile)
    → AreWritten file sheet number papers → SetTheMachine file sheet number papers
SetTheMachine-written file sheet number papers are =
    let on = found_on file sheet number _ are.printed in
    let m = on.0.0 in
    let card = card_printed m on.0.1 number (sink_with papers.card) on.2 in
    let chosen = card.promise in
    let shortest = chosen.shortest in
    let applies : Applies m papers.card (sink_with papers.file) success ⊎ LacksMemory success =
    subst (λ (r : Result Parts SheetFault).
    IfOk r (λ m. Applies m papers.card (sink_with papers.file) success ⊎ LacksMemory success))
    (in_files file sheet number m on.0.1 on.1).0 are.applied in
    let next = IsCarried-applied m papers.card (sink_with papers.file)
    (Applies-no_memory m papers.card (sink_with papers.file) applies) in
    let text : papers.card ≡ card_text number card.settings card.prices = card.written.written.whole in
    let says = subst (λ bytes. AreSettings bytes card.settings) (sym text)
    (settings_of _ number card.settings card.prices chosen.card) in
    let one = one_list papers.card next.settings card.settings next.of_card says in
    let same = leads_unique m next.n shortest.leaves.0 card.settings (subst (λ xs. Leads m xs next.n) one next.leads)
    shortest.leaves.1 in
    let written : papers.file ≡ machine_text next.n = next.written.written.whole in
    record {
      m = m;
      s = on.0.1;
      found = on.1;
      settings = card.settings;
      of_card = says;
      shortest = shortest.shortest;
      spares = chosen.spares;
      n = shortest.leaves.0;
      proved = record {
        reaches = record { leads = shortest.leaves.1; reads = shortest.leaves.2.reads };
        prices = card.prices;
        are_prices = chosen.card.are_prices;
        proves = chosen.proves;
      };
      of_next = ap machine_of written ∙ next.back ∙ ap Ok same;
      sheets = shortest.leaves.2;
    }

pub months_set_the_machine : MonthsSetTheMachine
months_set_the_machine file sheet [] [] are = tt
months_set_the_machine file sheet (number ∷ numbers) (papers ∷ more) are =
    grind (arith, SetTheMachine-written, months_set_the_machine papers.file sheet numbers more are.1)
months_set_the_machine file sheet numbers papers are = absurd are

DayAfterDay-months : (file sheet numbers : List ℕ) (papers : List CardAndFile) (m : Parts) (month : List (Option Day))
    (days : List Day) (cards : List (List Setting)) → machine_of file ≡ Ok m → sheet_of sheet ≡ Ok month
    → AreDaysOf month numbers days → SetTheMachineInTurn file sheet numbers papers → AreCardsOf papers cards
    → All IsLegalDay days × DayAfterDay IsProvedCard m days cards
DayAfterDay-months file sheet [] [] m month [] [] of_file of_sheet due are say = (All-nil IsLegalDay, tt)
DayAfterDay-months file sheet (number ∷ numbers) (paper ∷ papers) m month (s ∷ days) (card ∷ cards) of_file of_sheet
    due on say =
    let here = on.0 in
    let found = found_in_files file sheet number m month s of_file of_sheet due.0 in
    let same = found_once file sheet number here.m m here.s s here.found found in
    let proved = rw (same.0, same.1, one_list paper.card here.settings card here.of_card say.0) at here.proved in
    let n = here.n in
    let rest = DayAfterDay-months paper.file sheet numbers papers n month days cards here.of_next of_sheet due.1 on.1
    say.1 in
    (All-cons IsLegalDay s days (sheet_of-legal sheet month number s of_sheet due.0) rest.0, (n, proved, rest.1))
DayAfterDay-months file sheet numbers papers m month days cards of_file of_sheet due are say = grind arith

pub months_are_fewest : MonthsAreFewest
months_are_fewest file sheet numbers papers m month days cards lists of_file of_sheet rotor due written say reach =
    let set = months_set_the_machine file sheet numbers papers written in
    let are = DayAfterDay-months file sheet numbers papers m month days cards of_file of_sheet due set say in
    cards_are_fewest_in_all m days cards lists (machine_of-IsMachine file m of_file) rotor are.0 are.1 reach

-- ---- cards and files that set the machine exist

-- the planned card, and the file of the machine that it leads to, are the papers of the day
pub papers_for : WrittenFilesAreReadBack → (m n : Parts) (s : Day) → IsMachine m → IsLegalDay s
    → (planned card : declared.Card) → IsProvedPlannedCard m s planned.settings.items planned.prices
    → IsByKind m s planned card
    → (text : List ℕ) (day : ℕ) → day ≡ day_number s → IsCard text day card.settings.items card.prices
    → Leads m card.settings.items n → CanWriteDay m s n
papers_for read_back m n s machine legal planned card plans kinds text day number is_card leads
    file sheet found =
    let back = read_back n (lists_keep_machines m n card.settings.items machine is_card.in_range leads) in
    let prints = printed m s machine legal planned card plans kinds
    text day (sink_with text) success number is_card (in_whole Device text (sink_with text) refl)
    (λ err. grind (arith, err)) in
    let applies : Applies m text (sink_with (machine_text n)) success =
    Carried card.settings.items n (settings_of text day card.settings.items card.prices is_card) leads back
    (in_whole Device (machine_text n) (sink_with (machine_text n)) refl) in (
      record { card = text; file = machine_text n },
      record {
        printed = on_day file sheet (day_number s) _ success m s (inl (sym found)) prints;
        applied = of_read {no_memory = NoMemory} (machine_of file) m (λ m. Applies m text (sink_with (machine_text n)) success)
            (LacksMemory success) (inl (sym (in_files file sheet (day_number s) m s found).0)) applies;
      },
      back,
    )

pub papers_on : (m n : Parts) (s : Day) (month : List (Option Day)) (number : ℕ) (numbers : List ℕ)
    → day_number s ≡ number → day_of month number ≡ Some s → CanWriteDay m s n → CanWriteDays n month numbers
    → CanWriteDays m month (number ∷ numbers)
papers_on m n s month number numbers same of_month first rest file sheet of_file of_sheet =
    let found = found_in_files file sheet (day_number s) m month s of_file of_sheet (rw same of_month) in
    let papers = first file sheet found in
    let more = rest papers.0.file sheet papers.2 of_sheet in (
      papers.0 ∷ more.0,
      (subst (λ k. AreWritten file sheet k papers.0) same papers.1, more.1),
    )

pub days_on : (model other : Model) (month : List (Option Day)) (number : ℕ) (numbers all : List ℕ)
    → all ≡ number ∷ numbers → other ≡ model → All (HasDayOf model month) all → All (HasDayOf other month) numbers
days_on model other month number numbers all is same days =
    let there = subst (All (HasDayOf model month)) is days in
    subst (λ model. All (HasDayOf model month) numbers) (sym same)
    (All-tail (HasDayOf model month) number numbers there)
