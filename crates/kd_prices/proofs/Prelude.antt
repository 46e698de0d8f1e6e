-- The definitions and lemmas that most proofs of this crate use.
pub use Rattle.kd_card.proofs.Months.Shortest.{no_rotors, proving_cards_are_shortest, proving_prices_are_tight}
pub use Rattle.kd_card.specs.{Kinds.IsGroup, Proving.{Expanded, Expands, Proves, Same, priced_count}}
pub use Rattle.kd_card.specs.Kinds.{AreEnds, AreKinds, IsKind, expansion, row_format, AreKindsOf, IsPairInOrder}
pub use Rattle.kd_card.specs.Kinds.{KindFormat, bar_format, cable_format, pair_format}
pub use Rattle.kd_card.specs.Prices.{ArePrices, PricesFit, cost_at, price_sum, table_size, version_of, ArePricesInRange}
pub use Rattle.kd_card.specs.Prices.{ArePricesTight, PricesFitAt, day_prices, price_at, machine_prices}
pub use Rattle.kd_card.specs.Proving.{AreExpanded, AreModelPrices, AreSettingsNeeded, IsSettingNeeded}
pub use Rattle.kd_state.specs.OnKey.{columns_in_order, pair_in_order}
pub use Rattle.kd_card.specs.declared.kinds.{BarKind.BarKind, CableKind.CableKind, PairKind.PairKind, RowKind.RowKind}
pub use Rattle.kd_card.specs.declared.{kinds.KindOf.KindOf, prices.Version.TheVariants.{ByKind, ByNumber}}
pub use Rattle.kd_card.specs.declared.prices.PriceParts.{PriceParts, TheVariants.{BarKinds, Bars, CableKinds, Cables}}
pub use Rattle.kd_enigma.specs.Plugs.{NoLetterTwice, letters_in_pairs}
pub use Rattle.kd_prices.specs.{Alike.{ReadAlike, StandAlike}, Fitting.{FitsAtColumn, ListsFitAt}}
pub use Rattle.kd_prices.specs.Doubt.{IsCheckedAnswer, IsFirstNeedless, IsFirstWithout, IsNeededAnswer}
pub use Rattle.kd_prices.specs.Doubt.{PricesSuitMachine}
pub use Rattle.kd_prices.specs.Grouping.{AppendsKinds, CanBeKinds, HaveOnePriceEach, IsValidKeyAndPrice, kind_of_one}
pub use Rattle.kd_prices.specs.{KindCards.CanBeByKind, Laws.{AlikePricesAreEqual, AreEqualWhereAlike, RestIsShortest}}
pub use Rattle.kd_prices.specs.declared.doubt.Doubt.{Doubt, TheVariants.{IllegalAt, OtherModel, SumDiffers}}
pub use Rattle.kd_prices.specs.declared.doubt.Doubt.TheVariants.{NeedlessLine, NotTheSheet, PriceMissing, PriceTooHigh}
pub use Rattle.kd_state.proofs.{Carrying.{if_carried, leads_join, leads_next, leads_unique, when_carried}}
pub use Rattle.kd_state.proofs.CostTable.{columns_are_the_pairs, thirteen_columns}
pub use Rattle.kd_state.specs.{Costs.{bar_cost, cable_cost, columns_of, cost_table}, OneModel.IsOneModelOf}
pub use Rattle.kd_state.specs.AnswerRules.{GoesOn, HasFault, HasOneAnswer}
pub use Rattle.kd_state.proofs.OneAnswer.{HasOneAnswer-Demands, HasOneAnswer-Finds, HasOneAnswer-ThenNext, ThenNext-Ok}
pub use Rattle.kd_state.specs.Machine.{IsMachine, cable_in_order, letters_in_cables, model_of}
pub use Rattle.kd_state.specs.declared.setting.{Setting.Setting, why.Why.Why}
pub use Rattle.kd_state.specs.Setting.{Leads, Refuses, outcome}
pub use Rattle.kd_state.specs.SheetDay.{Day, IsLegalDay, Pin, Rotor, PinDay, RotorDay, day_model}
pub use Rattle.kd_state.specs.declared.machine.parts.Parts.{Parts, TheVariants.{Pin, Rotor}}
pub use Rattle.kd_state.specs.declared.machine.{pin_parts.PinParts.PinParts, rotor_parts.RotorParts.RotorParts}
pub use Rattle.kd_tables.specs.{Places.smaller_first, declared.place.Place.TheVariants.One}
pub use Rattle.std.proofs.Common.{Bool, List, None, Some, eqb, inl, inr, of_z, pos, refl, to_z, true, zero, ◌++◌, ◌+ℤ◌}
pub use Rattle.std.proofs.Common.{Contains, Option, arith, false, get_or, length, rules, slice_get, subst, unwrap_or, ℕ}
pub use Rattle.std.proofs.Common.{MatchOption, SFits, append_assoc, length-append, length-drop, replicate, unsigned_abs}
pub use Rattle.std.proofs.Common.{[], ap, set, suc, sym, w16, w32, ℤ, ◌+◌, ◌-◌, ◌<◌, ◌^◌, ◌∙◌, ◌∷◌, ◌≡◌, ◌≢◌, ◌≤◌, ◌⊎◌}
pub use Rattle.std.proofs.lemmas.Bool.{cases_order, eqb-false, false≢true, true≢false, Decides.nat_tests}
pub use Rattle.std.proofs.lemmas.{Cmp.tied_itself, Option.{slice_get-get_or, slice_get_past, unwrap_or-slice_get}}
pub use Rattle.std.proofs.lemmas.{Grind.common_steps, List.{append-nil, get_or-map, length-map, length-take, take_more}}
pub use Rattle.std.proofs.lemmas.{Int.{ints, to_z-of_z, to_z_pos}, Slice.Zip.{get_or-zip, length-zip}}
pub use Rattle.std.proofs.lemmas.List.Elements.{All-append, All-contains_itself, All-from_recursion, recursion_from_All}
pub use Rattle.std.proofs.lemmas.List.Elements.{All-contains, All-head, All-nil, All-replicate, All-tail, All-weaker}
pub use Rattle.std.proofs.lemmas.List.Sorted.{Contains-permutation, IsPermutation-sym, length_permutation}
pub use Rattle.std.proofs.lemmas.List.{get_or_default, length-replicate, take-append-drop, Sorted.All-permutation}
pub use Rattle.std.{proofs.lemmas.Result.err_from_is_err_and, specs.List.{All, AllByRecursion, zip}}
pub use Rattle.std.specs.{Cmp.IsTotalOrder, declared.cmp.Ordering.{Ordering, TheVariants.{Equal, Greater, Less}}}
pub use Rattle.std.specs.Prelude.{Err, IfErr, IfSome, IsOk, IsPermutation, IsSome, Ok, Result, drop, map, take, ◌↔◌}
