-- Names from std and from other crates that the proofs of this crate use.
pub use Rattle.std.proofs.Common.{All, Bool, Contains, Err, IfSome, IsErrAnd, IsFalse, IsTrue, List, MatchOption}
pub use Rattle.std.proofs.Common.{MatchResult, None, Ok, Option, Result, Some, [], add-one, ap, append_assoc, arith}
pub use Rattle.std.proofs.Common.{codes, decimal, drop, drop-cons, false, get_or, inl, inr, length, length-append}
pub use Rattle.std.proofs.Common.{length-drop, map, min, nat_le, option_map, option_to_list, refl, replicate, rules}
pub use Rattle.std.proofs.Common.{slice_get, slice_index, subst, suc, sym, take, true, zero, ℕ, ◌%◌, ◌*◌, ◌++◌, ◌+◌}
pub use Rattle.std.proofs.Common.{◌-◌, ◌<◌, ◌==◌, ◌^◌, ◌||◌, ◌∙◌, ◌∷◌, ◌≡◌, ◌≢◌, ◌≤◌, ◌⊎◌}
pub use Rattle.std.proofs.Math.{ListN.get_or-append, ListN.get_or-eq_default, Nat.le_of_mul-le-mul_left}
pub use Rattle.std.proofs.Math.Nat.{div-eq_of_lt, mod-eq_of_lt}
pub use Rattle.std.proofs.Math.Seq.{drop-append_seam, get_or-append_seam, take-append_seam}
pub use Rattle.std.proofs.{Transfers.starts_with_of_append, lemmas.Grind.common_steps}
pub use Rattle.std.proofs.lemmas.Bool.{cases_Bool, cases_eq, cases_lt, false≢true, Decides.nat_tests}
pub use Rattle.std.proofs.lemmas.List.{append-nil, append_cancel_right, drop-drop, drop-take, drop_all, drop_at}
pub use Rattle.std.proofs.lemmas.List.{drop_min, drop_more, get_or-map, get_or-take, get_or_past, length-map}
pub use Rattle.std.proofs.lemmas.List.{length-replicate, length-take, length-take-le, map-append, map_push}
pub use Rattle.std.proofs.lemmas.List.{nil_from_length, take-append-drop, take-append-le, take-take, take_all, take_at}
pub use Rattle.std.proofs.lemmas.List.{take_min, take_more, Sums.AllPass-from_list_all}
pub use Rattle.std.proofs.lemmas.List.Elements.{All-append, All-cons, All-drop, All-from_get_or, All-get_or, All-head}
pub use Rattle.std.proofs.lemmas.List.Elements.{All-map, All-nil, All-push, All-replicate, All-same, All-tail, All-take}
pub use Rattle.std.proofs.lemmas.List.Elements.{All-weaker, filter_map-append, All-more}
pub use Rattle.std.specs.{Int.div_ceil, Io.KnownBytes.{Appends, Consumes, IsAtEnd, Keeps}}
pub use Rattle.std.specs.List.{cons_option, enumerate_from, flat_map, join_with_byte, list_all}
pub use Rattle.arrayvec.specs.{ArrayVec.ArrayVec, ArrayVec.array_vec_len}
pub use Rattle.kd_form.specs.FormParts.{BeginsHeading, HasFirstLine, IsFraction, IsHeading, IsLetterCount, IsLineText}
pub use Rattle.kd_form.specs.FormParts.{WithoutReturn, cut_at_headings, parts_of}
pub use Rattle.kd_form.specs.FormSteps.{FitsHeadingAt, HasBegunHeading, HasLastLineStart, HoldsBody, HoldsForm}
pub use Rattle.kd_form.specs.FormSteps.{HoldsPart, HoldsFormStage, IsAtPartStart, IsBodyPlaintext, IsHeadingAnswer}
pub use Rattle.kd_form.specs.FormSteps.{current_part_start, AreFewLetters, AreHeadingWords}
pub use Rattle.kd_form.specs.FormText.{AtPart, IsAnswerAt, IsAnswerAfter, IsFormAnswer, IsLastPart, IsFormReadTo}
pub use Rattle.kd_form.specs.FormText.{IsRefusedForGood, NoHeading, PartsProperty, ReadsPartsTo, IsPartFaultForGood}
pub use Rattle.kd_form.specs.FormText.{first_part_start, form_message, plaintext_byte, plaintext_bytes}
pub use Rattle.kd_form.specs.FormText.{plaintext_with_end, next_part_start, sent_letters}
pub use Rattle.kd_form.specs.InternalKey.{ArePicked, PrecedesOrEquals, HaveNoInternalKey, IsInternalKey, IsTakenInTurn}
pub use Rattle.kd_form.specs.InternalKey.{OffWheel, OnWheel, AreRising}
pub use Rattle.kd_form.specs.KeyPatterns.{IsConverterDay, IsRotorDayWith, IsAnyKeyLine, key_letters, key_pattern}
pub use Rattle.kd_form.specs.KeyPatterns.{blank_places, rotor_pattern}
pub use Rattle.kd_form.specs.Keys.{AreKeys, key_words}
pub use Rattle.kd_form.specs.Laws.{OrdersHaveOneAnswer, OrdersGiveLetters, FormsHaveOneAnswer, FormsStayRefused}
pub use Rattle.kd_form.specs.Laws.{FormsGiveTheirOrders}
pub use Rattle.kd_form.specs.{OnTheKey.{IsKeyFault, OffKey}}
pub use Rattle.kd_form.specs.PartMaking.{IsPartMade, IsPartTextMade, IsKeysAnswer, cipher_from, enciphered_choice}
pub use Rattle.kd_form.specs.PartMaking.{fill_last_group, list_letters, part_size, pin_indicators, pin_letters}
pub use Rattle.kd_form.specs.PartMaking.{rotor_letters}
pub use Rattle.kd_form.specs.Order.{BeginsWithKeys, IsPatternFault, IsAnyOrderHead, IsLineWithEnd, IsOrderHead}
pub use Rattle.kd_form.specs.Order.{IsOrderHeadFault, IsKeyLine, IsOrder}
pub use Rattle.kd_form.specs.Part.{Part, words_after_spaces, body_text, fraction_text, letter_groups, heading_words}
pub use Rattle.kd_form.specs.Part.{indicator_words, part_text, pieces}
pub use Rattle.kd_form.specs.Patterns.{AreLettersAppended, IsFilledLine, IsPatternLine, blank_count, filled_pattern}
pub use Rattle.kd_form.specs.Patterns.{fits_mark, letters_for_mark}
pub use Rattle.kd_form.specs.BodyCipher.{HasIndicator, HasIndicatorsAround, IsLettersAnswer, group_of_body}
pub use Rattle.kd_form.specs.BodyCipher.{keys_of_body, list_of_body, deciphered_key, text_of_body}
pub use Rattle.kd_form.specs.PartReading.{HasHeading, IsExpectedCount, HasDueNumbers, PartStart, PartContent, ReadPart}
pub use Rattle.kd_form.specs.PartReading.{IsContentAnswer, IsPartAnswer, IsBodyAnswer}
pub use Rattle.kd_form.specs.OrderSteps.{AreLettersTaken, IsFreshWriter, IsHeadBegun, IsHeadLine, IsTextEndAnswer}
pub use Rattle.kd_form.specs.OrderSteps.{HoldsOrder, HoldsOrderStage, HoldsOrderText}
pub use Rattle.kd_form.specs.SendStream.{IsWritableCount, IsSentBeforeEnd, order_message}
pub use Rattle.kd_form.specs.InTurn.{InTurn}
pub use Rattle.kd_form.specs.Sending.{ArePartTextsMade, IsByteAnswer, IsBytesAnswer, IsMadeAnswer, IsDividedAnswer}
pub use Rattle.kd_form.specs.Sending.{IsHeadAnswer, IsReadAnswer, IsOrderAnswer, OrderParts, IsOrderFaultForGood}
pub use Rattle.kd_form.specs.Sending.{space_letter, letter_of_byte, letters_from, parts_needed, text_letters}
pub use Rattle.kd_form.specs.StreamSteps.{AtSource, IsCloseAnswer, HasBeenEnded, IsFeedAllAnswer, HasRoom}
pub use Rattle.kd_form.specs.StreamSteps.{HasFaultForGood, HasReadSoFar, InFeeding, IsFed, IsReadStopped}
pub use Rattle.kd_form.specs.StreamSteps.{IsReadNextAnswer, answer_with_fault, fault_of_interruption}
pub use Rattle.kd_form.specs.StreamSteps.{is_device_interruption}
pub use Rattle.kd_form.specs.Streams.{IsStreamAnswer, FaultAtEnd, ByTheEnd, ByThen, IsMessageAnswer, FallsShort, IsOpen}
pub use Rattle.kd_form.specs.Streams.{IsStreamed, Message, FaultBefore, SinkFails, FaultForGood, TooLong}
pub use Rattle.kd_form.specs.Streams.{MessageComplete, is_device, is_off_key}
pub use Rattle.kd_form.specs.Typing.{IsAllowedUpTo, IsTextFault, HasTyped, IsTypedChunk, cipher_text, text_message}
pub use Rattle.kd_form.specs.Typing.{typed_letters}
pub use Rattle.kd_form.specs.declared.{fault.FormFault.FormFault, heading.{Heading.Heading, Indicator.Indicator}}
pub use Rattle.kd_form.specs.declared.keys.{Keys.{Keys, TheVariants.{Pin, Rotor}}, PinKeys.PinKeys}
pub use Rattle.kd_form.specs.declared.sending.pattern_line.PatternFault.{PatternFault}
pub use Rattle.kd_form.specs.declared.fault.FormFault.TheVariants.{BadByte, BadHeading, NotReady, PartOrder}
pub use Rattle.kd_tables.proofs.LineWords.{IsNumeralModel-digits, lines_split_into_words, numbers_are_words}
pub use Rattle.kd_tables.proofs.LineWords.{parts_make_lines, texts_determine_first_parts, word_by_bytes}
pub use Rattle.kd_state.proofs.Keys.{cipher_in_turn, engine_cipher, twice_on_key}
pub use Rattle.kd_state.specs.declared.machine.parts.Parts.{Parts}
pub use Rattle.kd_state.specs.AnswerRules.{GoesOn, HasFault, HasOneAnswer, Demands}
pub use Rattle.kd_state.proofs.OneAnswer.{HasOneAnswer-Demands, HasOneAnswer-Finds, HasOneAnswer-ThenNext}
pub use Rattle.kd_state.proofs.OneAnswer.{HasOneAnswer-Yields, ThenNext-Ok, Yields-Ok}
pub use Rattle.kd_state.specs.SheetDay.{Day, IsLegalDay, Pin, Rotor, pin_day}
pub use Rattle.kd_state.specs.EngineKey.{IsWindow, cipher}
pub use Rattle.kd_state.specs.OwnKeys.{sheet_key}
pub use Rattle.kd_state.specs.TwoCiphers.{physical_cipher}
pub use Rattle.kd_tables.specs.LineWords.{IsFirstPart, IsWithout, line_of, line_then, words_of}
pub use Rattle.kd_tables.proofs.Failing.{err_is}
pub use Rattle.kd_tables.specs.{Ports.EndAgrees, Ports.FailureAgrees, Ports.KeepsFailureFlag, Ports.Port, Ports.port}
pub use Rattle.kd_tables.specs.{Ports.read_limit, Text.is_text_byte, Text.letters_text, Writing.TakesPrefix}
