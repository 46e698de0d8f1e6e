-- The answers of `run_check` to a card.
use Rattle.{kd_card.proofs.Months.Shortest.proving_cards_are_shortest, kd_card.specs.Proving.Proves}
use Rattle.kd_host.specs.Writing.{WritesText}
use Rattle.kd_desk.specs.declared.fault.DeskFault.TheVariants.{Device}
use Rattle.kd_desk.proofs.Prelude.{◌≡◌, ℕ, List, length, Result, Parts, Setting, IsMachine, Day, IsLegalDay, PriceParts}
use Rattle.kd_desk.proofs.Prelude.{IsCard, DeskFault, Port, Checks, Shortest, verdict_text}

-- for a card that proves itself, the answer is SHORTEST
pub IsVerdictWritten-proved : (m : Parts) (s : Day) (number : ℕ) (bytes : List ℕ)
    (sink : Port) (answer : Result (Unit {0}) DeskFault)
    → IsMachine m → IsLegalDay s → (day : ℕ) (settings : List Setting) (prices : PriceParts) (count : ℕ)
    → IsCard bytes day settings prices → day ≡ number → Proves m s settings prices → count ≡ length settings
    → WritesText Device (verdict_text count) sink answer → Checks m s number bytes sink answer
IsVerdictWritten-proved m s number bytes sink answer machine legal day settings prices count card same proves counted
    writes =
    Shortest settings prices (rw same at card) (record {
      proves = proves;
      shortest = proving_cards_are_shortest m s settings prices machine legal card.are_prices proves;
      written = rw counted at writes;
    })
