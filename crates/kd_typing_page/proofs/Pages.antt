-- The whole page.
use Rattle.std.proofs.Common.{◌≡◌, ℕ, List, ◌∷◌, refl}
use Rattle.kd_language.specs.declared.language.Language.{Language}
unfoldable use Rattle.kd_pictures.specs.FileHead.{file_head}
unfoldable use Rattle.kd_language.specs.Template.{filled}
use Rattle.kd_state.specs.OwnKeys.{physical_key}
use Rattle.kd_state.specs.TwoCiphers.{window_of}
use Rattle.kd_state.specs.declared.machine.parts.Parts.{Parts}
use Rattle.kd_state.specs.declared.machine.parts.Parts.TheVariants.{Pin, Rotor}
use Rattle.kd_typing.specs.MachineTable.{shown_letters}
unfoldable use Rattle.kd_typing_page.specs.TypingPage.{page_head, typing_page}

-- A machine's key has the letters that the machine shows.
pub window_is : (m : Parts) → shown_letters (physical_key m) ≡ window_of m
window_is (Rotor m) = refl
window_is (Pin m) = refl

-- A page isn't empty: its first byte is `<`.
pub page_begins : (l : Language) (m : Parts) → (byte : ℕ) × ((rest : List ℕ) × (typing_page l m ≡ byte ∷ rest))
unfolding typing_page page_head file_head filled
page_begins l m = (_, (_, refl))
