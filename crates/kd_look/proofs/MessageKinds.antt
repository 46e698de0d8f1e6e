-- Of which kind `look` takes a message: an order, or a form.
use Rattle.std.proofs.Common.{◌≡◌, ◌∙◌, ℕ, true, false, List, [], ◌∷◌, ◌++◌, ap, arith, codes, refl}
use Rattle.std.proofs.lemmas.Bool.{Decides.nat_tests}
use Rattle.kd_tables.specs.LineWords.{line_of}
use Rattle.kd_tables.specs.Text.{letters_text}
use Rattle.kd_form.specs.declared.keys.Keys.{Keys}
use Rattle.kd_form.specs.declared.keys.Keys.TheVariants as kinds
use Rattle.kd_form.specs.FormParts.{begins_heading}
use Rattle.kd_form.specs.Keys.{key_words}
use Rattle.kd_look.proofs.FirstLines.{order_keyed, other_words, rotor_line}
use Rattle.kd_look.specs.Laws.{FormsBeginWithHeadings, OrdersAreNoForms}
use Rattle.kd_look.specs.MessageWords.{is_form, is_message}

pub forms_begin_with_headings : FormsBeginWithHeadings
unfolding begins_heading
forms_begin_with_headings text = refl

-- a word of letters that a space follows doesn't begin with a digit
word_no_form : (word rest : List ℕ) → is_form (codes "PART " ++ (letters_text word ++ 32 ∷ rest)) ≡ false
word_no_form [] rest = refl
word_no_form (letter ∷ word) rest = grind (arith, nat_tests)

-- the text of a line of keys doesn't begin as a form does
keys_no_form : (k : Keys) (rest : List ℕ) → (is_message (line_of (key_words k) ++ rest) ≡ true)
    × (is_form (line_of (key_words k) ++ rest) ≡ false)
keys_no_form (kinds.Rotor k) rest = (
  ap is_message (rotor_line k rest),
  ap is_form (rotor_line k rest) ∙ word_no_form k.ground_setting (other_words k ++ rest),
)
keys_no_form (kinds.Pin k) rest = (refl, word_no_form (k.chosen ∷ []) (letters_text k.external ++ rest))

pub orders_no_forms : OrdersAreNoForms
orders_no_forms s order form is =
    let line = order_keyed s order form is in
    let (message, kind) = keys_no_form line.keys line.rest in
    (ap is_message line.joined ∙ message, ap is_form line.joined ∙ kind)
