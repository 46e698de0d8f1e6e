-- The lines of a body.
use Rattle.std.proofs.Common.{◌≡◌, ◌≢◌, ◌∙◌, ℕ, ◌+◌, ◌-◌, ◌&&◌, nat_lt, Bool, true, false, List, [], ◌∷◌, ◌++◌}
use Rattle.std.proofs.Common.{refl, ap, arith, if◌then◌else◌, Some, None}
use Rattle.std.proofs.lemmas.Bool.{Decides.nat_tests}
use Rattle.std.proofs.lemmas.List.Elements.{All-head, All-tail}
use Rattle.kd_tables.specs.LineWords.{IsFirstPart, IsWithout}
use Rattle.kd_lost.specs.DamagedPart.{body_of, first_line}
use Rattle.kd_lost.specs.ShortLine.{is_short, later_lines, letters_on, short_line_from}
use Rattle.kd_lost.proofs.Parts.{lines_there, one_line}

no_line : (byte : ℕ) (bytes : List ℕ) → byte ≢ 10 → later_lines (byte ∷ bytes) ≡ later_lines bytes
no_line byte bytes other = grind (arith, nat_tests, other)

later_there : (line body : List ℕ) → IsWithout 10 line
    → later_lines (line ++ 10 ∷ body) ≡ body ∷ later_lines body
later_there [] body without = refl
later_there (byte ∷ line) body without =
    no_line byte (line ++ 10 ∷ body) (All-head (λ other. other ≢ 10) byte line without)
    ∙ later_there line body (All-tail (λ other. other ≢ 10) byte line without)

later_none : (line : List ℕ) → IsWithout 10 line → later_lines line ≡ []
later_none [] without = refl
later_none (byte ∷ line) without =
    no_line byte line (All-head (λ other. other ≢ 10) byte line without)
    ∙ later_none line (All-tail (λ other. other ≢ 10) byte line without)

-- the first short line, if the test of the first line of `left` says `told`
short_line_step : (all number : ℕ) (left : List ℕ) (told : Bool)
    → (is_short (letters_on (first_line left)) && nat_lt 0 (letters_on (body_of left))) ≡ told
    → short_line_from all number (left ∷ later_lines left)
    ≡ (if told
    then Some (record { line = number; letters = letters_on (first_line left); before = all - letters_on left })
    else short_line_from all (number + 1) (later_lines left))
short_line_step all number left told test =
    ap (λ (b : Bool). if b
    then Some (record { line = number; letters = letters_on (first_line left); before = all - letters_on left })
    else short_line_from all (number + 1) (later_lines left)) test

-- the line is short, and letters stand after it
pub short_there : (all number : ℕ) (left line body : List ℕ) → IsFirstPart 10 left line body
    → (is_short (letters_on line) && nat_lt 0 (letters_on body)) ≡ true
    → short_line_from all number (left ∷ later_lines left)
    ≡ Some (record { line = number; letters = letters_on line; before = all - letters_on left })
short_there all number left line body first told =
    let there = lines_there line body first.without in
    let its : first_line left ≡ line = ap first_line first.joined ∙ there.0 in
    let after : body_of left ≡ body = ap body_of first.joined ∙ there.1 in
    short_line_step all number left true
    ((λ i. is_short (letters_on (its i)) && nat_lt 0 (letters_on (after i))) ∙ told)
    ∙ ap (λ l. Some (record { line = number; letters = letters_on l; before = all - letters_on left })) its

-- the line isn't short, or no letters stand after it
pub short_after : (all number : ℕ) (left line body : List ℕ) → IsFirstPart 10 left line body
    → (is_short (letters_on line) && nat_lt 0 (letters_on body)) ≡ false
    → short_line_from all number (left ∷ later_lines left)
    ≡ short_line_from all (number + 1) (body ∷ later_lines body)
short_after all number left line body first told =
    let there = lines_there line body first.without in
    let its : first_line left ≡ line = ap first_line first.joined ∙ there.0 in
    let after : body_of left ≡ body = ap body_of first.joined ∙ there.1 in
    let later : later_lines left ≡ body ∷ later_lines body =
    ap later_lines first.joined ∙ later_there line body first.without in
    short_line_step all number left false
    ((λ i. is_short (letters_on (its i)) && nat_lt 0 (letters_on (after i))) ∙ told)
    ∙ ap (short_line_from all (number + 1)) later

both_off : (one : Bool) → (one && false) ≡ false
both_off true = refl
both_off false = refl

-- the last line isn't short
pub short_none : (all number : ℕ) (left : List ℕ) → IsWithout 10 left
    → short_line_from all number (left ∷ later_lines left) ≡ None
short_none all number left without =
    let there = one_line left without in
    short_line_step all number left false
    (ap (λ b. is_short (letters_on (first_line left)) && nat_lt 0 (letters_on b)) there.1
    ∙ both_off (is_short (letters_on (first_line left))))
    ∙ ap (short_line_from all (number + 1)) (later_none left without)
