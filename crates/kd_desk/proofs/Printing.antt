-- What the contracts promise of a card that was planned and written.
use Rattle.kd_desk.proofs.Prelude.{Day, DeskFault, IsCard, IsLegalDay, IsMachine, List, Parts, Port, PriceParts, Result}
use Rattle.kd_desk.proofs.Prelude.{IsErr, IsTrue, arith, day_number, subst, sym, ℕ, ◌≡◌}
use Rattle.kd_prices.specs.KindCards.{IsByKind}
use Rattle.kd_desk.specs.RunCard.{Card, Different, IsChosenCard, IsShortestCard, Prints}
use Rattle.kd_plan.specs.Planned.{IsProvedPlannedCard}
use Rattle.{kd_host.specs.Writing.WritesText, kd_desk.specs.declared.fault.DeskFault.TheVariants.Device}
use Rattle.kd_state.proofs.{Keys.{equally_set, reading_cipher, reading_ready}}
use Rattle.kd_state.specs.{Setting.Leads, SheetsMachine.IsSheetsMachine}
use Rattle.{kd_card.proofs.Showing.proving_prices_show, kd_state.proofs.Carrying.lists_keep_machines}
use Rattle.kd_card.specs.Proving.{Proves}
use Rattle.kd_card.specs.declared.card.Card as declared
use Rattle.kd_desk.specs.EquallySet.{EquallySetDecipherOn}

module _ (m : Parts) (s : Day) (is_machine : IsMachine m) (legal : IsLegalDay s) where
  leaves : (text settings : List _) (numbered prices : PriceParts) → IsProvedPlannedCard m s settings numbered
      → IsCard text (day_number s) settings prices
      → (after : Parts) × Leads m settings after × IsSheetsMachine after s
  leaves text settings numbered prices plans card = grind (arith, lists_keep_machines, reading_ready, reading_cipher)

  decipher : EquallySetDecipherOn s
  decipher one other text set are =
      equally_set one other s text set.machine set.other_machine legal set.on_key set.other_on_key set.letters are

  -- the planned card, and the same card with prices by kind
  module _ (planned card : declared.Card) (plans : IsProvedPlannedCard m s planned.settings.items planned.prices)
      (kinds : IsByKind m s planned card) where
    same : IsProvedPlannedCard m s card.settings.items planned.prices
    same = subst (λ settings. IsProvedPlannedCard m s settings planned.prices) (sym kinds.settings) plans

    pub printed : (text : List ℕ) (day : ℕ) (sink : Port) (answer : Result (Unit {0}) DeskFault) → day ≡ day_number s
        → IsCard text day card.settings.items card.prices → WritesText Device text sink answer
        → (IsErr answer → IsTrue sink.has_failed)
        → Prints (IsChosenCard m s (day_number s)) m s (day_number s) sink answer
    printed text day sink answer number is_card takes failure =
        let dated = subst (λ d. IsCard text d card.settings.items card.prices) number is_card in
        let proves : Proves m s card.settings.items card.prices =
        record { numbered = planned.prices; expands = kinds.expands; proves = same.proves } in
        Card (record {
          settings = card.settings.items;
          prices = card.prices;
          promise = record {
            shortest = record {
              leaves = leaves text card.settings.items planned.prices card.prices same dated;
              shortest = same.shortest;
              shown = proving_prices_show m s card.settings.items card.prices kinds.version proves;
              deciphers = decipher;
            };
            card = subst (λ bytes. IsCard bytes (day_number s) card.settings.items card.prices) dated.text dated;
            proves = proves;
            planned = same.planned;
            spares = same.spares;
          };
          written = subst (λ bytes. WritesText Device bytes sink answer) dated.text takes;
          failure = failure;
        })

-- a card that the planner chooses is a shortest card
pub shortest_printed : (m : Parts) (s : Day) (day : ℕ) (sink : Port) (answer : Result (Unit {0}) DeskFault)
    → Prints (IsChosenCard m s day) m s day sink answer → Prints (IsShortestCard m s) m s day sink answer
shortest_printed m s day sink answer (Different models told) = Different models told
shortest_printed m s day sink answer (Card c) = Card (record {
  settings = c.settings;
  prices = c.prices;
  promise = c.promise.shortest;
  written = c.written;
  failure = c.failure;
})
