-- Machines that are equally set for a day decipher each other's texts. The definition `IsShortestCard` includes this
-- promise.
use Rattle.std.specs.Prelude.{◌≡◌, ◌<◌, ℕ, List, All}
use Rattle.kd_state.specs.declared.machine.parts.Parts.{Parts}
use Rattle.kd_state.specs.Machine.{IsMachine}
use Rattle.kd_state.specs.SheetDay.{Day}
use Rattle.kd_state.specs.OnKey.{OnKey}
use Rattle.kd_state.specs.TwoCiphers.{window_of, physical_cipher}

-- Both machines are on the day's key, and they show the same letters.
pub record AreEquallySet (day : Day) (one other : Parts) : Type 0 where
  pub machine : IsMachine one
  pub other_machine : IsMachine other
  pub on_key : OnKey one day
  pub other_on_key : OnKey other day
  pub letters : window_of one ≡ window_of other

-- If two machines are equally set for the day, each deciphers the texts that the other enciphers.
abbrev pub EquallySetDecipherOn : Day → Type 0
EquallySetDecipherOn day =
    (one other : Parts) (text : List ℕ) → AreEquallySet day one other → All (λ letter. letter < 26) text
    → physical_cipher other (physical_cipher one text) ≡ text
