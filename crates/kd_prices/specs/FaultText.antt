-- The text of a doubt about a card.
use Rattle.std.specs.Prelude.{decimal, ℕ, List, ◌++◌}
use Rattle.kd_tables.specs.Refusals.{refusal_name, word_after_space}
use Rattle.kd_state.specs.FaultText.{illegal_at_text}
use Rattle.kd_prices.specs.declared.doubt.Doubt.TheVariants.{NeedlessLine, NotTheSheet, PriceMissing, PriceTooHigh}
use Rattle.kd_prices.specs.declared.doubt.Doubt.{Doubt, TheVariants.{IllegalAt, OtherModel, SumDiffers}}
use Rattle.kd_tables.specs.declared.refusal.Refusal.TheVariants as refusals

-- the text of a doubt: the refusal's number and name, and then the doubt's details, such as the number of a line
abbrev pub doubt_text : Doubt → List ℕ
doubt_text OtherModel = refusal_name refusals.OtherModel
doubt_text PriceMissing = refusal_name refusals.PriceMissing
doubt_text (IllegalAt line why) = illegal_at_text (record { line = line; why = why })
doubt_text NotTheSheet = refusal_name refusals.NotTheSheet
doubt_text (PriceTooHigh i j) = refusal_name refusals.PriceTooHigh ++ word_after_space (decimal i)
    ++ word_after_space (decimal j)
doubt_text SumDiffers = refusal_name refusals.SumDiffers
doubt_text (NeedlessLine line) = refusal_name refusals.NeedlessLine ++ word_after_space (decimal line)
