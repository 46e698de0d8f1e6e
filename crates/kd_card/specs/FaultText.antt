-- Why bytes aren't a card, as text: the refusal's number and name, and the line number if there is one.
use Rattle.std.specs.Prelude.{decimal, ℕ, List, ◌++◌}
use Rattle.kd_tables.specs.declared.refusal.Refusal.TheVariants as refusals
use Rattle.kd_tables.specs.Refusals.{refusal_name, word_after_space}
use Rattle.kd_card.specs.declared.fault.CardFault.{CardFault}
use Rattle.kd_card.specs.declared.fault.CardFault.TheVariants.{BadHead, BadLine, TooMany}
use Rattle.kd_card.specs.declared.fault.CardFault.TheVariants.{PriceMissing, CountWrong, Trailing}

-- the text of a fault: the refusal's number and name, and for `BadLine` the number of the line
abbrev pub card_fault_text : CardFault → List ℕ
card_fault_text BadHead = refusal_name refusals.BadHead
card_fault_text (BadLine line) = refusal_name refusals.BadLine ++ word_after_space (decimal line)
card_fault_text TooMany = refusal_name refusals.TooMany
card_fault_text PriceMissing = refusal_name refusals.PriceMissing
card_fault_text CountWrong = refusal_name refusals.CardCountWrong
card_fault_text Trailing = refusal_name refusals.Trailing
