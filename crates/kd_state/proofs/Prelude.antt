-- Names from other crates, and of this crate's definitions, that the proofs of this crate use.
pub use Rattle.kd_drum.specs.Converter.{IsEachOnItsWheel, PinKey, is_acting_after, bars_met, converter_cipher}
pub use Rattle.kd_enigma.specs.Plugs.{NoLetterTwice, letters_in_pairs}
pub use Rattle.kd_state.specs.SameParts.{numbered_item, place_in_box, same_reflector, same_wheel}
pub use Rattle.kd_state.specs.Costs.{bar_cost, cable_cost, column_letters, columns_of, costs_by, exactly_one}
pub use Rattle.kd_state.specs.Laws.{CipherOfChunks, EngineEnciphersAsMachine, EquallySetDecipher, KeyAfterChunks}
pub use Rattle.kd_state.specs.Laws.{ListsHaveNoFault, MachinesCanBeTurned, OnKeyEnciphersByDaysKey, OnKeyIsReady}
pub use Rattle.kd_state.specs.Laws.{OneListFault, ReadsAsDayEnciphersAsDay, ReadsAsDayIsReady, SettingsKeepMachines}
pub use Rattle.kd_state.specs.Laws.{ListsKeepMachines, ListsHaveOneResult, TextsDetermineLists}
pub use Rattle.kd_state.specs.Laws.{DaysEngineDeciphersItself, TurnedEngineEnciphersAsMachine}
pub use Rattle.kd_state.specs.Laws.{TurningChangesOnlyLetters, TurnedEnciphersByDaysKey, TurnedStaysOnKey}
pub use Rattle.kd_state.specs.Line.{BeginsWithSettingLines, BeginsWithSettingLine, BeginsWithNoSetting}
pub use Rattle.kd_state.specs.Line.{IsSettingInRange, IsListText, IsSettingOfWords, list_text, on_off_text}
pub use Rattle.kd_state.specs.Line.{setting_line, setting_words}
pub use Rattle.kd_state.specs.Machine.{AreLegalSeats, AreCables, AreLetters, AreOnWheels, HasAllPins}
pub use Rattle.kd_state.specs.Machine.{AreLegalPinParts, AreLegalRotorParts, IsMachine, IsSeatedAt, cable_letters}
pub use Rattle.kd_state.specs.Machine.{with_cables_in_order, letter_at, machine_letter, model_of, cable_in_order}
pub use Rattle.kd_state.specs.Machine.{letters_in_cables, ring_at, machine_ring, machine_slot, machine_standing}
pub use Rattle.kd_state.specs.OnKey.{IsRotorOnKey, OnKey, ShowsWindow, cable_of_column, cables_of}
pub use Rattle.kd_state.specs.Pins.{pin_at, pin_set, wheel_pins, with_pin}
pub use Rattle.kd_state.specs.FirstFault.{◌>>=◌, ◌>>◌, demand}
pub use Rattle.kd_state.specs.Setting.{Carries, Leads, Refuses, outcome, cable_with, cable_without, has_loose_end}
pub use Rattle.kd_state.specs.Setting.{is_same_place, with_lug, seat_without}
pub use Rattle.kd_state.specs.SheetDay.{Day, HasWheelLetters, IsLegalDay, IsLegalRotorDay, Pin, Rotor, PinDay}
pub use Rattle.kd_state.specs.SheetDay.{RotorDay, seats_of_wheels}
pub use Rattle.kd_state.specs.EngineKey.{EngineKey, Pin, Rotor, cipher, key_with_window}
pub use Rattle.kd_state.specs.TwoCiphers.{IsReady, physical_cipher, seated_wheels, window_of}
pub use Rattle.kd_state.specs.OwnKeys.{physical_key, sheet_key}
pub use Rattle.kd_state.specs.declared.machine.parts.Parts.{Parts, TheVariants.Pin, TheVariants.Rotor}
pub use Rattle.kd_state.specs.declared.machine.{pin_parts.PinParts.PinParts, rotor_parts.RotorParts.RotorParts}
pub use Rattle.kd_state.specs.declared.{setting.Setting.Setting, setting.why.Why.Why}
pub use Rattle.kd_state.specs.declared.setting.Setting.TheVariants.{LugTo, PinTo, Pull, Put, RingTo, Seat}
pub use Rattle.kd_state.specs.declared.setting.Setting.TheVariants.{SeatReflector, Turn}
pub use Rattle.kd_state.specs.declared.setting.why.Why.TheVariants.{NoLooseEnd, NoSuchBar, NoSuchCable, NotOnWheel}
pub use Rattle.kd_state.specs.declared.setting.why.Why.TheVariants.{NotThere, OtherModel, PlaceTaken, SlotEmpty}
pub use Rattle.kd_state.specs.declared.setting.why.Why.TheVariants.{SocketTaken, WheelNotAllowed, WouldPass}
pub use Rattle.kd_state.specs.declared.sheet_day.rotor_entry.SheetWheel.{SheetWheel}
pub use Rattle.kd_tables.specs.{Pairs.has_letter, Permutation.alphabet, Permutation.exchange, Rings.place_on}
pub use Rattle.kd_tables.specs.Places.{IsBefore, IsReading, lug_text, place_number, place_rank, place_text, places}
pub use Rattle.kd_tables.specs.Places.{reading_of}
pub use Rattle.kd_tables.specs.Tables.{box_of, reflector_text, reflectors_of, slots_of, wheel_text, wheels_for}
pub use Rattle.kd_tables.specs.declared.{lug.Lug.Lug, lug.Lug.TheVariants.Left, model.Model.Model, place.Place.Place}
pub use Rattle.kd_tables.specs.declared.{model.Model.TheVariants.M209, place.Place.TheVariants.One}
pub use Rattle.kd_tables.specs.declared.{reflector.Reflector.Reflector, wheel.Wheel.Wheel}
pub use Rattle.kd_tables.specs.declared.wheel.Wheel.TheVariants.{Beta, Gamma, I, II, III, IV, V, VI, VII, VIII}
pub use Rattle.std.proofs.lemmas.Bool.{and_from, and_parts, both_ways, cases_Bool, cases_eq, cond_both, eq-eqb}
pub use Rattle.std.proofs.lemmas.Bool.{eqb-false, eqb-true, false_from_ne_true, false≢true, le-leb, le-ltb, leb-false}
pub use Rattle.std.proofs.lemmas.Bool.{leb-true, lt-ltb, ltb-true, ne_eqb, not-false, not-true, or_from, or_parts}
pub use Rattle.std.proofs.lemmas.Bool.{true_from_ne_false, true≢false}
pub use Rattle.std.proofs.lemmas.Bool.Decides.{Decides-and, Decides-eqb, Decides-like, nat_tests}
pub use Rattle.std.proofs.lemmas.Fmt.{IsAscii-decimal, decimal_injective, decimal_nonempty, digits_decimal}
pub use Rattle.std.proofs.lemmas.Fmt.{parse-decimal}
pub use Rattle.std.proofs.lemmas.List.{append-nil, append_assoc, append_cancel_left, drop_all, drop_more, get_or-map}
pub use Rattle.std.proofs.lemmas.List.{get_or_at, get_or_default, length-append, length-map, length-replicate}
pub use Rattle.std.proofs.lemmas.List.{length-set, length_push, map-set, map_push}
pub use Rattle.std.proofs.lemmas.List.Elements.{All-append, All-cons, All-contains, All-from_get_or, All-from_recursion}
pub use Rattle.std.proofs.lemmas.List.Elements.{All-head, All-map, All-nil, All-push, All-set, All-tail, All-weaker}
pub use Rattle.std.proofs.lemmas.List.Elements.{Contains-append_cases, Contains-append_left, Contains-append_right}
pub use Rattle.std.proofs.lemmas.List.Elements.{Contains-get_or, recursion_from_All}
pub use Rattle.std.proofs.lemmas.{Grind.common_steps, List.Quantifiers.position-Some}
pub use Rattle.std.proofs.lemmas.List.Sorted.{All-permutation, Contains-permutation, IsPermutation-append}
pub use Rattle.std.proofs.lemmas.List.Sorted.{IsPermutation-append_comm, IsPermutation-append_left}
pub use Rattle.std.proofs.lemmas.List.Sorted.{IsPermutation-append_right, IsPermutation-refl, IsPermutation-sym}
pub use Rattle.std.proofs.lemmas.List.Sorted.{IsPermutation-trans, ranks_by, sorted_far, sum_by-IsPermutation}
pub use Rattle.std.proofs.lemmas.List.Sums.{AllPass-from_list_all, passes_at_first, position_or_len_is, sum_by-cons}
pub use Rattle.std.proofs.lemmas.List.Sums.{sum_by-le, sum_by_more}
pub use Rattle.std.proofs.lemmas.Map.Made.{Contains-tail, is_member-Decides}
pub use Rattle.std.proofs.lemmas.Option.{get_or_from_slice_get, gets, none-some, same_Some, slice_get-get_or}
pub use Rattle.std.proofs.lemmas.Option.{slice_get-map, slice_get_cases, slice_get_past, slice_get_within}
pub use Rattle.std.specs.{Bool.Decides, Bool.then_some, Str.Parse.ParsesUnsigned, Ordering.is_lt, Ordering.nat_cmp}
pub use Rattle.std.specs.{Prelude.IsPermutation, Prelude.take, Prelude.◌&&◌}
pub use Rattle.std.specs.Cmp.Lexicographic.{options_total, pointwise_decides}
pub use Rattle.std.specs.Cmp.{IsStrictWeakOrder, nat_cmp_total, on_total, then_total}
pub use Rattle.std.specs.List.{All, AllByRecursion, AllWithin, cons_option, count_by, enumerate_from, list_all}
pub use Rattle.std.specs.List.{list_any, position_or_len, range_with_len, slice_split}
pub use Rattle.std.specs.Option.{IsSome, SomeIff, is_none, is_some, option_and_then, option_eq, option_map}
pub use Rattle.std.specs.Option.{option_map_or, option_or, option_to_list, option_zip, unwrap_or}
pub use Rattle.kd_pins.specs.{PinWheels.pins_of, declared.pin_set.PinSet.PinSet}
unfoldable pub use Rattle.{kd_tables.specs.Rings.ring_of, std.specs.List.IsDistinct}
pub use Rattle.std.proofs.Common.{Bool, Contains, List, MatchOption, None, Option, Some, [], ap, arith, drop, false}
pub use Rattle.std.proofs.Common.{filter_map, find, get_or, inl, inr, length, map, nat_eq, not, refl, rules, set}
pub use Rattle.std.proofs.Common.{slice_get, subst, suc, sym, true, zero, ℕ, ◌++◌, ◌+◌, ◌-◌, ◌<◌, ◌||◌, ◌↔◌, ◌∙◌, ◌∷◌}
pub use Rattle.std.proofs.Common.{◌≡◌, ◌≢◌, ◌≤◌, ◌⊎◌}
pub use lib.Pointwise.{pointwise}
