-- The lines of findings, found line by line.
use Rattle.std.proofs.Common.{◌≡◌, ℕ, suc, zero, ◌+◌, Bool, true, false, List, [], ◌∷◌, map, Option, Some, None, find}
use Rattle.std.proofs.Common.{option_map, take, length, cond, arith, ap, sym, ◌∙◌, subst, refl, if◌then◌else◌}
use Rattle.std.proofs.Common.{◌↔◌, IsTrue, String, Global, not}
use Rattle.std.specs.List.{range_with_len}
use Rattle.std.specs.Option.{option_and_then, option_map_or}
use Rattle.std.specs.Result.{result_ok}
use Rattle.toml.specs.Data.{Members}
use Rattle.toml.specs.View.{members_view}
use Rattle.toml.specs.declared.value.Value.{Value}
use Rattle.kd_sheet.specs.Document.{document_of}
use Rattle.kd_findings.specs.declared.findings.Finding.{Finding}
use Rattle.kd_findings.specs.NotToml.{line_at}
use Rattle.kd_look.specs.Line.{ends_line, is_too_long, line_before, line_in_text, line_number, line_of}
use Rattle.kd_look.specs.Line.{has_any_key, or_line, sought_for}
use Rattle.kd_look.specs.declared.line.Sought.{Sought}
unfoldable use Rattle.kd_look.specs.Line.{has_value, has_value_at, line_in, line_of_fault, line_so_far}

-- equal functions give equal lists
pub map-same : {X Y : Type 0} (f g : X → Y) (xs : List X) → ((x : X) → f x ≡ g x) → map f xs ≡ map g xs
map-same f g [] same = refl
map-same f g (x ∷ xs) same = ap (λ y. y ∷ map f xs) (same x) ∙ ap (λ ys. g x ∷ ys) (map-same f g xs same)

-- ---- the first number that passes a test

or_line-none : (line : Option ℕ) → or_line line None ≡ line
or_line-none None = refl
or_line-none (Some line) = refl

-- a choice between a number and others is one of both
or_choice : (test : Bool) (first : ℕ) (others next : Option ℕ)
    → or_line (cond test (Some first) others) next ≡ cond test (Some first) (or_line others next)
or_choice true first others next = refl
or_choice false first others next = refl

further : (test : ℕ → Bool) (first count : ℕ) → find test (range_with_len first (suc count))
    ≡ or_line (find test (range_with_len first count)) (if test (first + count) then Some (first + count) else None)
further test first zero =
    let same : first + 0 ≡ first = omega arith in rw same refl
further test first (suc count) =
    let same : first + 1 + count ≡ first + suc count = omega arith in
    let next = subst (λ n. find test (range_with_len (first + 1) (suc count))
    ≡ or_line (find test (range_with_len (first + 1) count)) (if test n then Some n else None)) same
    (further test (first + 1) count) in
    ap (cond (test first) (Some first)) next ∙ sym (or_choice (test first) first _ _)

-- the first of one more number that passes is the first of the others, or the number itself
find-range-more : (test : ℕ → Bool) (first count : ℕ) → find test (range_with_len first (count + 1))
    ≡ or_line (find test (range_with_len first count)) (if test (first + count) then Some (first + count) else None)
find-range-more test first count = let next : count + 1 ≡ suc count = omega arith in rw next (further test first count)

-- ---- the line of what is sought, with one more byte

map_or : (f : ℕ → ℕ) (first : Option ℕ) (test : Bool) (number : ℕ)
    → option_map f (or_line first (if test then Some number else None))
    ≡ or_line (option_map f first) (if test then Some (f number) else None)
map_or f None true number = refl
map_or f None false number = refl
map_or f (Some first) true number = refl
map_or f (Some first) false number = refl

line_before-more : (text : List ℕ) (index : ℕ) (sought : Sought) → line_before text (index + 1) sought
    ≡ or_line (line_before text index sought) (if has_value_at text sought index then Some (line_at text index) else None)
line_before-more text index sought =
    let same : 0 + index ≡ index = omega arith in
    let more = subst (λ n. find (has_value_at text sought) (range_with_len 0 (index + 1))
    ≡ or_line (find (has_value_at text sought) (range_with_len 0 index))
    (if has_value_at text sought n then Some n else None)) same
    (find-range-more (has_value_at text sought) 0 index) in
    ap (option_map (line_at text)) more
    ∙ map_or (line_at text) (find (has_value_at text sought) (range_with_len 0 index)) (has_value_at text sought index) index

-- ---- the line of a finding, with one more byte

-- the line, if a document that was read has what is sought
in_document : (sought : Sought) (line : ℕ) (document : Option Members)
    → (if option_map_or (has_value sought) document false then Some line else None)
    ≡ option_and_then (λ read. if has_value sought read then Some line else None) document
in_document sought line None = refl
in_document sought line (Some document) = refl

nothing_sought : (document : Option Members) → option_and_then {U = ℕ} (λ read. None) document ≡ None
nothing_sought None = refl
nothing_sought (Some document) = refl

so_far_ends : (text : List ℕ) (index line : ℕ) (sought : Option Sought) → ends_line text index ≡ true
    → line ≡ line_at text index
    → option_and_then (line_before text (index + 1)) sought
    ≡ or_line (option_and_then (line_before text index) sought)
    (option_and_then (λ document. option_and_then (λ one. if has_value one document then Some line else None) sought)
    (result_ok (document_of (take (index + 1) text))))
unfolding has_value_at
so_far_ends text index line None ends is = sym (nothing_sought (result_ok (document_of (take (index + 1) text))))
so_far_ends text index line (Some sought) ends is =
    line_before-more text index sought
    ∙ ap (or_line (line_before text index sought)) (rw (ends, is)
    (in_document sought (line_at text index) (result_ok (document_of (take (index + 1) text)))))

-- where a line ends, a finding's line is known already, or the text up to there tells it
pub line_so_far-ends : (text : List ℕ) (index line : ℕ) (finding : Finding) → ends_line text index ≡ true
    → line ≡ line_at text index
    → line_so_far text (index + 1) finding
    ≡ or_line (line_so_far text index finding) (line_in_text (take (index + 1) text) line finding)
unfolding line_so_far line_in
line_so_far-ends text index line finding ends is =
    so_far_ends text index line (sought_for finding.place finding.fault) ends is

so_far_stays : (text : List ℕ) (index : ℕ) (sought : Option Sought) → ends_line text index ≡ false
    → option_and_then (line_before text (index + 1)) sought ≡ option_and_then (line_before text index) sought
unfolding has_value_at
so_far_stays text index None ends = refl
so_far_stays text index (Some sought) ends =
    line_before-more text index sought ∙ rw ends (or_line-none (line_before text index sought))

-- where no line ends, no finding's line becomes known
pub line_so_far-stays : (text : List ℕ) (index : ℕ) (finding : Finding) → ends_line text index ≡ false
    → line_so_far text (index + 1) finding ≡ line_so_far text index finding
unfolding line_so_far
line_so_far-stays text index finding ends = so_far_stays text index (sought_for finding.place finding.fault) ends

-- ---- at the beginning and at the end

none_before : (text : List ℕ) (sought : Option Sought) → option_and_then (line_before text 0) sought ≡ None
none_before text None = refl
none_before text (Some sought) = refl

-- before the text no line is known
pub line_so_far-zero : (text : List ℕ) (finding : Finding) → line_so_far text 0 finding ≡ None
unfolding line_so_far
line_so_far-zero text finding = none_before text (sought_for finding.place finding.fault)

none_sought : (text : List ℕ) (sought : Option Sought) → is_too_long text ≡ true
    → option_and_then (line_number text) sought ≡ None
none_sought text None long = refl
none_sought text (Some sought) long = rw long refl

-- in a text that is too long no finding has a line
pub line_of-too_long : (text : List ℕ) (finding : Finding) → is_too_long text ≡ true → line_of text finding ≡ None
unfolding line_of_fault
line_of-too_long text finding long = none_sought text (sought_for finding.place finding.fault) long

all_sought : (text : List ℕ) (sought : Option Sought) → is_too_long text ≡ false
    → option_and_then (line_number text) sought ≡ option_and_then (line_before text (length text)) sought
all_sought text None short = refl
all_sought text (Some sought) short = rw short refl

-- in other texts a finding's line is the first in the whole text
pub line_of-short : (text : List ℕ) (finding : Finding) → is_too_long text ≡ false
    → line_of text finding ≡ line_so_far text (length text) finding
unfolding line_of_fault line_so_far
line_of-short text finding short = all_sought text (sought_for finding.place finding.fault) short

-- ---- any key

-- a table that isn't empty has a key
pub has_any_key-counts : (entries : List (String Global × Value)) (empty : Bool) → IsTrue empty ↔ (length entries ≡ 0)
    → not empty ≡ has_any_key (members_view entries)
has_any_key-counts [] true same = refl
has_any_key-counts [] false same = grind (arith, same)
has_any_key-counts (first ∷ rest) true same = absurd (omega (arith, same.0 refl))
has_any_key-counts (first ∷ rest) false same = refl
