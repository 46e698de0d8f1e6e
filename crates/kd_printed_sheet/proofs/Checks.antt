-- The 26-letter check, as a Converter makes it.
use Rattle.std.proofs.Common.{arith, ◌≡◌, ◌↔◌, ◌∙◌, ℕ, Bool, true, false, List, IsTrue, ap, refl, replicate, subst, sym}
use Rattle.std.specs.Bool.{OnTrue}
unfoldable use Rattle.kd_tables.specs.Rings.{ring_of}
use Rattle.kd_state.specs.Machine.{AreOnWheels}
use Rattle.kd_state.specs.SheetDay.{Day, Pin, PinDay}
use Rattle.kd_state.specs.EngineKey.{EngineKey, IsWindow, cipher, key_with_window}
use Rattle.kd_state.specs.OwnKeys.{sheet_key}
use Rattle.kd_sheet.proofs.ReadBack.Described.KeyValues.{AreOnWheels-by_test}
unfoldable use Rattle.kd_printed_sheet.specs.KeyList.{check_of}

-- the letter A is on each wheel
first_letters : AreOnWheels (replicate 6 0)
unfolding ring_of
first_letters = AreOnWheels-by_test (replicate 6 0) refl refl

-- The day's machine, turned to A on each wheel, enciphers 26 times A.
pub check_is : (values : PinDay) (day : Day) (before after : EngineKey) (turned : Bool) (text : List ℕ)
    → day ≡ Pin values → before ≡ sheet_key day → (IsTrue turned ↔ IsWindow before (replicate 6 0))
    → OnTrue turned (after ≡ key_with_window before (replicate 6 0)) → text ≡ cipher after (replicate 26 0)
    → text ≡ check_of values
unfolding check_of
check_is values day before after true text is made window turns enciphers =
    enciphers ∙ ap (λ key. cipher key (replicate 26 0)) (turns ∙ ap (λ key. key_with_window key (replicate 6 0))
    (made ∙ ap sheet_key is))
check_is values day before after false text is made window turns enciphers =
    let shown = subst (λ key. IsWindow key (replicate 6 0)) (sym (made ∙ ap sheet_key is)) first_letters in
    absurd (grind (arith, window.1 shown))
