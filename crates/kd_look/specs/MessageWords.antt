-- What `look` says about an order or a form. It names the first fault that can be found without a machine. If no fault
-- is found, it says what the message is.
-- Test: tests/cases/curator-look.toml
use Rattle.std.specs.Prelude.{codes, ℕ, ◌++◌, ◌&&◌, nat_le, Bool, List, [], ◌∷◌, Result, Ok, Err, slice_index, take}
use Rattle.std.specs.Prelude.{if◌then◌else◌}
use Rattle.std.specs.Str.{bytes_eq}
use Rattle.kd_form.specs.FaultText.{form_fault_text}
use Rattle.kd_language.specs.Language.{text_in}
use Rattle.kd_language.specs.declared.language.Language.{Language}
use Rattle.kd_language.specs.Template.{filled}
use Rattle.kd_slips.specs.declared.texts.TheConstants.{AN_M4}
use Rattle.kd_findings.specs.NotToml.{column_at, line_at, place_words}
use Rattle.kd_findings.specs.Texts.{titled}
use Rattle.kd_look.specs.Order.{keys_given, letter_count, order_start}
use Rattle.kd_look.specs.OrderHead.{key_line_of}
use Rattle.kd_look.specs.Form.{form_answer}
use Rattle.kd_look.specs.declared.message.form_heading.FormHeading.{FormHeading}
use Rattle.kd_look.specs.declared.message.fault.MessageFault.{MessageFault}
use Rattle.kd_look.specs.declared.message.fault.Reason.{Reason}
use Rattle.kd_look.specs.declared.message.fault.Reason.TheVariants as reasons
use Rattle.kd_look.specs.declared.message.order_head.KeyLine.{KeyLine}
use Rattle.kd_look.specs.declared.message.order_head.KeyLine.TheVariants as lines
use Rattle.kd_look.specs.declared.texts.TheConstants as texts

-- whether the file is a message (an order or a form): it begins with `PART `
abbrev pub is_message : List ℕ → Bool
is_message text = bytes_eq (take 5 text) (codes "PART ")

-- whether a message is a form: a digit follows `PART `; every other message is an order
abbrev pub is_form : List ℕ → Bool
is_form text = nat_le 48 (slice_index text 5) && nat_le (slice_index text 5) 57

-- the words for a missing letter in a line of keys, with an example of a right line
abbrev pub letter_words : Language → KeyLine → List ℕ
letter_words l lines.ThreeSlots = text_in l texts.LETTER_FOR_THREE
letter_words l lines.FourSlots = text_in l texts.LETTER_FOR_FOUR
letter_words l lines.Converter = text_in l texts.LETTER_FOR_CONVERTER

-- the words for a missing space in a line of keys, with an example of a right line
abbrev pub space_words : Language → KeyLine → List ℕ
space_words l lines.ThreeSlots = text_in l texts.SPACE_FOR_THREE
space_words l lines.FourSlots = text_in l texts.SPACE_FOR_FOUR
space_words l lines.Converter = text_in l texts.SPACE_FOR_CONVERTER

-- what is wrong, in words
abbrev pub reason_words : Language → Reason → List ℕ
reason_words l reasons.OrderEnds = text_in l texts.ORDER_ENDS
reason_words l (reasons.KeyLetter form) = letter_words l form
reason_words l (reasons.KeySpace form) = space_words l form
reason_words l reasons.LineGoesOn = text_in l texts.LINE_GOES_ON
reason_words l reasons.LineStart = text_in l texts.LINE_START
reason_words l reasons.OffWheel = text_in l texts.OFF_WHEEL
reason_words l reasons.TextSign = text_in l texts.TEXT_SIGN
reason_words l reasons.NoLetter = text_in l texts.NO_LETTER
reason_words l reasons.FewKeys = text_in l texts.FEW_KEYS
reason_words l reasons.ManyKeys = text_in l texts.MANY_KEYS
reason_words l reasons.HeadingNumber = text_in l texts.HEADING_NUMBER
reason_words l reasons.HeadingSlash = text_in l texts.HEADING_SLASH
reason_words l reasons.HeadingParts = text_in l texts.HEADING_PARTS
reason_words l reasons.HeadingCount = text_in l texts.HEADING_COUNT
reason_words l reasons.HeadingLetter = text_in l texts.HEADING_LETTER
reason_words l reasons.HeadingSpace = text_in l texts.HEADING_SPACE
reason_words l reasons.PartsMixed = text_in l texts.PARTS_MIXED
reason_words l reasons.PartsMissing = text_in l texts.PARTS_MISSING
reason_words l reasons.BodySign = text_in l texts.BODY_SIGN
reason_words l reasons.BodyCount = text_in l texts.BODY_COUNT

-- The line about a fault of an order or a form: the file's name, line and column of the fault, what is wrong, and the
-- refusal's number and name.
unfoldable pub fault_line : Language → List ℕ → List ℕ → MessageFault → List ℕ
fault_line l name text found =
    name ++ place_words l (line_at text found.index) (column_at text found.index) (reason_words l found.reason)
    ++ codes " (" ++ form_fault_text found.fault ++ codes ")\n"

-- The words for the machine of a message, such as `a Converter M-209`. The messages of an Enigma I and of an M3 look
-- alike: then the words name both.
unfoldable pub machine_name : Language → KeyLine → List ℕ
machine_name l lines.ThreeSlots = text_in l texts.ENIGMA_I_OR_M3
machine_name l lines.FourSlots = text_in l AN_M4
machine_name l lines.Converter = text_in l texts.CONVERTER

-- a line with a title and a number, such as `parts: 2`
unfoldable pub number_line : List ℕ → ℕ → List ℕ
number_line title number = titled title number ++ codes "\n"

-- The lines about an order without a fault: the order's machine, what was looked at, the number of parts, and the
-- number of letters in the order's text. The text begins at `start`.
unfoldable pub order_lines : Language → List ℕ → List ℕ → ℕ → List ℕ
order_lines l name text start =
    filled (text_in l texts.ORDER) (name ∷ machine_name l (key_line_of text) ∷ [])
    ++ number_line (text_in l texts.PARTS) (keys_given text start)
    ++ number_line (text_in l texts.LETTERS) (letter_count text (key_line_of text) start)

-- the lines about an order; the last argument is the result of reading the order
abbrev pub order_words_for : Language → List ℕ → List ℕ → Result ℕ MessageFault → List ℕ
order_words_for l name text (Ok start) = order_lines l name text start
order_words_for l name text (Err found) = fault_line l name text found

-- The lines about a form without a fault: the form's machine, what was looked at, and the number of parts. `first` is
-- the form's first heading.
unfoldable pub form_lines : Language → List ℕ → FormHeading → List ℕ
form_lines l name first =
    filled (text_in l texts.FORM) (name ∷ machine_name l first.keys ∷ [])
    ++ number_line (text_in l texts.PARTS) first.parts

-- the lines about a form; the last argument is the result of reading the form
abbrev pub form_words_for : Language → List ℕ → List ℕ → Result FormHeading MessageFault → List ℕ
form_words_for l name text (Ok first) = form_lines l name first
form_words_for l name text (Err found) = fault_line l name text found

-- the lines about an order or a form, without the lines about its groups
abbrev pub message_words : Language → List ℕ → List ℕ → List ℕ
message_words l name text = if is_form text then form_words_for l name text (form_answer text)
    else order_words_for l name text (order_start text)
