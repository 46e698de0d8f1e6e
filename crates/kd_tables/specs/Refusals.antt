-- The refusals: the number and the name of each, and the words that follow the name.
-- Source: the table of refusals in docs/guide/REFUSALS.md.
-- Test: says_why_it_refuses
use Rattle.std.specs.Prelude.{codes, ℕ, List, ◌∷◌}
use Rattle.kd_tables.specs.declared.refusal.Refusal.{Refusal}
use Rattle.kd_tables.specs.declared.refusal.Refusal.TheVariants as refusals

-- the number and the name of a refusal
abbrev pub refusal_name : Refusal → List ℕ
refusal_name refusals.LetterTwice = codes "1 LetterTwice"
refusal_name refusals.NotOnWheel = codes "2 NotOnWheel"
refusal_name refusals.Illegal = codes "3 Illegal"
refusal_name refusals.NotReady = codes "4 NotReady"
refusal_name refusals.OtherModel = codes "5 OtherModel"
refusal_name refusals.Device = codes "6 Device"
refusal_name refusals.BadHead = codes "7 BadHead"
refusal_name refusals.BadLine = codes "8 BadLine"
refusal_name refusals.TooMany = codes "9 TooMany"
refusal_name refusals.PriceMissing = codes "10 PriceMissing"
refusal_name refusals.CardCountWrong = codes "11 CountWrong"
refusal_name refusals.Trailing = codes "12 Trailing"
refusal_name refusals.IllegalAt = codes "13 IllegalAt"
refusal_name refusals.NotTheSheet = codes "14 NotTheSheet"
refusal_name refusals.PriceTooHigh = codes "15 PriceTooHigh"
refusal_name refusals.SumDiffers = codes "16 SumDiffers"
refusal_name refusals.NeedlessLine = codes "17 NeedlessLine"
refusal_name refusals.NotToml = codes "18 NotToml"
refusal_name refusals.UnknownModel = codes "19 UnknownModel"
refusal_name refusals.Missing = codes "20 Missing"
refusal_name refusals.BadValue = codes "21 BadValue"
refusal_name refusals.WheelTwice = codes "22 WheelTwice"
refusal_name refusals.WheelNotAllowed = codes "23 WheelNotAllowed"
refusal_name refusals.BadRow = codes "24 BadRow"
refusal_name refusals.DayTwice = codes "25 DayTwice"
refusal_name refusals.NoMemory = codes "26 NoMemory"
refusal_name refusals.NotOnKey = codes "27 NotOnKey"
refusal_name refusals.BadByte = codes "28 BadByte"
refusal_name refusals.EmptyText = codes "29 EmptyText"
refusal_name refusals.PartKeys = codes "30 PartKeys"
refusal_name refusals.KeyNotOnWheel = codes "31 KeyNotOnWheel"
refusal_name refusals.WrongGroup = codes "32 WrongGroup"
refusal_name refusals.IndicatorSpent = codes "33 IndicatorSpent"
refusal_name refusals.BadHeading = codes "34 BadHeading"
refusal_name refusals.PartCountWrong = codes "35 CountWrong"
refusal_name refusals.IndicatorsDiffer = codes "36 IndicatorsDiffer"
refusal_name refusals.PartOrder = codes "37 PartOrder"
refusal_name refusals.ReadTooLong = codes "38 ReadTooLong"
refusal_name refusals.NoSuchDay = codes "39 NoSuchDay"
refusal_name refusals.OtherDay = codes "40 OtherDay"

-- the word, with a space before it
abbrev pub word_after_space : List ℕ → List ℕ
word_after_space word = 32 ∷ word
