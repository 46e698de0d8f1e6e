-- How often a letter occurs in a list.
unfoldable pub use Rattle.{kd_state.specs.Costs.standings_as, kd_tables.specs.Rings.ring_of}
pub use Rattle.std.proofs.lemmas.Map.{Keys.{IsDistinct-head, IsDistinct-tail}, Made.IsDistinct-from_count}
pub use Rattle.std.proofs.lemmas.{Cmp.nat_eq_equiv, Int.ints, Slice.{Eq.bytes_eq-Decides, Zip.AllZip-long}}
pub use Rattle.std.proofs.lemmas.{Option.get_or_from_slice_get, Slice.Zip.{get_or-zip, length-zip, seconds-zip}}
pub use Rattle.std.proofs.lemmas.{Bool.{eq-eqb, not-false, Decides.{eqb_tells, nat_tests}}, Option.unwrap_or-slice_get}
pub use Rattle.std.proofs.lemmas.{Bool.{cases_eq, cond_both}, Grind.common_steps, List.Sorted.IsPermutation-swap}
pub use Rattle.std.proofs.lemmas.List.Sorted.{All-permutation, Contains-permutation, IsPermutation-keeps}
pub use Rattle.std.proofs.lemmas.List.Sorted.{IsPermutation-map, IsPermutation-refl, IsPermutation-sym}
pub use Rattle.std.proofs.lemmas.List.Sorted.{IsPermutation-trans, length_permutation, sum_by-IsPermutation}
pub use Rattle.std.proofs.lemmas.List.Elements.{All-from_get_or, All-head, All-set, All-tail, Contains-get_or}
pub use Rattle.std.proofs.lemmas.List.{map-id, Elements.recursion_from_All}
pub use Rattle.std.proofs.lemmas.List.{get_or_default, Sums.{fold-append, sum-map, sum_by-cons}}
pub use Rattle.std.proofs.{Common.pos, lemmas.List.{get_or-map, length-map, length-set}}
pub use Rattle.std.proofs.Common.{Bool, Contains, inr, is_none, length, List, None, refl, Some, unwrap_or, ℕ, ◌++◌, []}
pub use Rattle.std.proofs.Common.{AllPairs, Any, ap, false, nat_eq, set, slice_get, subst, true, ◌≢◌, ◌≤ℤ◌, arith, cond}
pub use Rattle.std.proofs.Common.{fold, get_or, inl, map, suc, zero, zip, ◌+ℤ◌, ◌+◌, ◌-◌, ◌≡◌, ◌≤◌, count_by, is_some}
pub use Rattle.std.proofs.Common.{IsPermutation, min, not, rules, sum, sym, ℤ, ◌&&◌, ◌<◌, ◌∙◌, ◌∷◌, ◌⊎◌}
pub use Rattle.std.{proofs.Common.Option, specs.List.{All, AllByRecursion, AllZip, IsDistinct, sum_by}}
pub use Rattle.std.specs.{Option.option_map_or, Str.bytes_eq}
pub use Rattle.kd_pins.specs.{declared.pin_set.PinSet.PinSet, PinWheels.pins_of}
pub use Rattle.kd_card.specs.Proving.{AreModelPrices, AreSettingsNeeded, Expanded, IsSettingNeeded, priced_count, Same}
pub use Rattle.kd_card.specs.{Months.{CardsAreFewestInAll, ReachesDay}, Proving.{is_priced_setting, ProvesByNumber}}
pub use Rattle.kd_card.specs.{declared.prices.PriceParts.TheVariants.{Bars, Cables}, Months.{DayAfterDay, IsProvedCard}}
pub use Rattle.kd_card.specs.{declared.prices.PriceParts.PriceParts, Laws.{AsFewAreNeeded, ProvingPricesAreTight}}
pub use Rattle.kd_card.specs.Laws.{FittingPricesBoundLists, ProvingCardsAreAsLong, ProvingCardsAreShortest}
pub use Rattle.kd_card.specs.Prices.{ArePrices, ArePricesTight, day_prices, PricesFit, machine_prices, table_size}
pub use Rattle.{kd_card.specs.Prices.{cost_at, IsPriceTightAt, price_at, price_sum}, kd_tables.specs.Rings.place_on}
pub use Rattle.kd_tables.specs.declared.{lug.Lug.Lug, model.Model.{Model, TheVariants.M209}, wheel.Wheel.Wheel}
pub use Rattle.kd_tables.specs.declared.{place.Place.{Place, TheVariants.One}, reflector.Reflector.Reflector}
pub use Rattle.kd_tables.specs.{Places.{IsBefore, reading_of}, Tables.{reflector_text, reflectors_of, wheel_text}}
pub use Rattle.kd_state.proofs.Wheels.{days_wheels_have_their_places, same_reflector-Decides, same_wheel_self}
pub use Rattle.{kd_tables.specs.Permutation.alphabet}
pub use Rattle.kd_state.proofs.{Cables.column_is, Slots.IsNumbered-not_none, SortedAlike.count_by-cons}
pub use Rattle.kd_state.proofs.{Cables.cables_by_columns, CostTable.thirteen_columns, Slots.{set_other, IsNumbered}}
pub use Rattle.kd_state.proofs.Carrying.{carries_unique, if_carried, lug_moved, pin_made, pulled, reflector_made, ring_made, seat_made}
pub use Rattle.kd_state.proofs.Carrying.{six_lists, turn_made, was_put, wheel_turn_made, when_carried}
pub use Rattle.std.specs.Prelude.{IfOk, IsFalse}
pub use Rattle.kd_state.specs.Costs.{bar_cost, cable_cost, columns_of, exactly_one}
pub use Rattle.kd_state.specs.Costs.{column_letters, cost_table, loose_count, lugs_moved, one_unless}
pub use Rattle.kd_state.specs.Setting.{Carries, cable_without, outcome, seat_without, with_lug}
pub use Rattle.{kd_state.specs.{Pins.with_pin, Setting.{cable_with, Leads}}, kd_tables.specs.Pairs.has_letter}
pub use Rattle.kd_state.specs.{Pins.wheel_pins, SameParts.{numbered_item, place_in_box, same_reflector, same_wheel}}
pub use Rattle.kd_state.specs.declared.{setting.Setting.TheVariants.LugTo, sheet_day.rotor_entry.SheetWheel.SheetWheel}
pub use Rattle.kd_state.specs.declared.setting.Setting.TheVariants.{PinTo, Pull, Put, RingTo, Seat, SeatReflector, Turn}
pub use Rattle.kd_state.specs.declared.{machine.parts.Parts.{Parts, TheVariants.{Pin, Rotor}}, setting.Setting.Setting}
pub use Rattle.kd_state.specs.declared.machine.{pin_parts.PinParts.PinParts, rotor_parts.RotorParts.RotorParts}
pub use Rattle.kd_state.specs.Machine.{IsMachine, letter_at, model_of, ring_at}
pub use Rattle.kd_state.specs.{Machine.cable_letters, OnKey.{ReadsAs, cable_of_column, cables_of}}
pub use Rattle.kd_state.specs.SheetDay.{Day, day_model, IsLegalDay, IsLegalRotorDay, Pin, Rotor, PinDay, RotorDay}
pub use borrow.Author.Differences.{up, down}

pub at_most_one : (b : Bool) → cond b 1 0 ≤ 1
at_most_one b = grind arith

-- Setting one item lowers a sum over pairs by at most one, if it lowers the term of this item by at most one.
pub zip_set : {X Y : Type 0} (f : X × Y → ℕ) (xs : List X) (ys : List Y) (i : ℕ) (v d : X)
    → ((y : Y) → f (get_or xs i d, y) ≤ f (v, y) + 1) → sum_by f (zip xs ys) ≤ sum_by f (zip (set xs i v) ys) + 1
zip_set f (x ∷ xs) (y ∷ ys) zero v d h = grind (arith, common_steps, sum_by-cons)
zip_set f (x ∷ xs) (y ∷ ys) (suc i) v d h = grind (arith, common_steps, sum_by-cons, zip_set f xs ys i v d h)
zip_set f xs ys i v d h = omega arith

-- how often the letter occurs
abbrev pub times : ℕ → List ℕ → ℕ
times letter letters = count_by (nat_eq letter) letters

-- No letter occurs twice.
abbrev pub AreOnce : List ℕ → Type 0
AreOnce letters = (letter : ℕ) → times letter letters ≤ 1

times_apart : (letter : ℕ) (letters : List ℕ) → AllByRecursion (λ other. nat_eq letter other ≡ false) letters
    → times letter letters ≡ 0
times_apart letter [] h = refl
times_apart letter (other ∷ letters) h = grind (arith, common_steps, count_by-cons, times_apart letter letters h.1)

pub once_of_distinct : (letters : List ℕ) → IsDistinct nat_eq letters → AreOnce letters
once_of_distinct [] distinct letter = omega arith
once_of_distinct (other ∷ letters) distinct letter =
    let none = times_apart other letters (IsDistinct-head nat_eq other letters distinct) in
    let rest = once_of_distinct letters (IsDistinct-tail nat_eq other letters distinct) letter in
    grind (arith, common_steps, count_by-cons, at_most_one, eqb_tells)

pub once_in_alphabet : AreOnce alphabet
once_in_alphabet = once_of_distinct alphabet (IsDistinct-from_count nat_eq_equiv alphabet refl)
