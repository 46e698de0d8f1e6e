-- Where a line ends that fits a pattern, or its first byte that doesn't fit.
use Rattle.std.proofs.Common.{◌≡◌, ◌≢◌, ◌∙◌, ℕ, ◌+◌, ◌<◌, Bool, true, false, List, [], ◌∷◌, ◌++◌, Option, Some, None}
use Rattle.std.proofs.Common.{Result, Ok, Err, ap, arith, cond, drop, get_or, inl, inr, length, refl, slice_get}
use Rattle.std.proofs.Common.{subst, sym, ◌==◌}
use Rattle.std.proofs.lemmas.Bool.{Decides.nat_tests, cases_Bool, false≢true}
use Rattle.std.proofs.lemmas.List.{drop_more, get_or-drop, length-drop}
use Rattle.std.proofs.lemmas.List.Elements.{All-drop, All-nil}
use Rattle.std.proofs.lemmas.Option.{get_or_from_slice_get, slice_get_read, slice_get_within}
use Rattle.std.specs.Option.{option_map_or}
use Rattle.kd_form.specs.Order.{IsLineWithEnd}
use Rattle.kd_form.specs.Patterns.{IsFilledLine, IsPatternLine}
use Rattle.kd_form.proofs.Lines.{end_open, line_off, line_on, line_open}
use Rattle.kd_sheet.specs.Document.{◌>>=◌}
use Rattle.kd_look.specs.Signs.{end_of_line, fits_at, fits_mark, line_end, marks_end}
use Rattle.kd_look.specs.declared.message.signs.WrongByte.{WrongByte}

-- -------- one byte

fitting : (mark : ℕ) (there : Option ℕ) → option_map_or (fits_mark mark) there false ≡ true
    → (byte : ℕ) × (there ≡ Some byte) × (fits_mark mark byte ≡ true)
fitting mark (Some byte) fits = (byte, refl, fits)
fitting mark None fits = absurd (false≢true fits)

-- a byte that fits a mark is the next byte
pub fits_next : (text : List ℕ) (mark index : ℕ) → fits_at text mark index ≡ true
    → (byte : ℕ) × (drop index text ≡ byte ∷ drop (index + 1) text) × (fits_mark mark byte ≡ true)
fits_next text mark index fits =
    let (byte, there, fit) = fitting mark (slice_get text index) fits in
    let inside : index < length text = slice_get_within text index byte there in (
      byte,
      drop_more text index byte inside ∙ ap (λ b. b ∷ drop (index + 1) text)
          (get_or_from_slice_get text index byte byte there),
      fit,
    )

-- the first of the bytes from `index` on is the byte at `index`
pub slice_get-next : (text after : List ℕ) (index byte : ℕ) → drop index text ≡ byte ∷ after
    → slice_get text index ≡ Some byte
slice_get-next text after index byte next =
    slice_get_read text (length text) index byte refl (omega (arith, ap length next, length-drop index text))
    (sym (ap (λ l. get_or l 0 byte) next) ∙ get_or-drop index text 0 byte ∙ ap (λ n. get_or text n byte) (omega arith))

-- if the byte at `index` doesn't fit a mark, the first of the bytes from `index` on doesn't fit it
pub unfit_next : (text after : List ℕ) (mark index byte : ℕ) → fits_at text mark index ≡ false
    → drop index text ≡ byte ∷ after → fits_mark mark byte ≡ false
unfit_next text after mark index byte unfit next =
    subst (λ o. option_map_or (fits_mark mark) o false ≡ false) (slice_get-next text after index byte next) unfit

-- -------- one line

-- with some more bytes, the bytes satisfy `Is`
abbrev pub MayGoOn : (List ℕ → Type 0) → List ℕ → Type 0
MayGoOn Is bytes = (more : List ℕ) × (more ≢ []) × Is (bytes ++ more)

-- the bytes don't satisfy `Is`, whatever bytes follow
abbrev pub IsOff : (List ℕ → Type 0) → List ℕ → Type 0
IsOff Is bytes = (more : List ℕ) → ¬ (Is (bytes ++ more))

-- A line that satisfies `Is` is in the text from `index` to `end`.
pub record IsLineTo (Is : List ℕ → Type 0) (text : List ℕ) (index end : ℕ) : Type 0 where
  pub line : List ℕ
  pub is : Is line
  pub joined : drop index text ≡ line ++ drop end text
  pub size : end ≡ index + length line

-- From `index` on, the byte at `wrong` is the first byte with which no line that satisfies `Is`
-- can go on.
pub record IsLineWrongAt (Is : List ℕ → Type 0) (text : List ℕ) (index wrong : ℕ) : Type 0 where
  pub part : List ℕ
  pub joined : drop index text ≡ part ++ drop wrong text
  pub size : wrong ≡ index + length part
  pub begins : MayGoOn Is part
  pub stops : (byte : ℕ) (after : List ℕ) → drop wrong text ≡ byte ∷ after
      → IsOff Is (part ++ byte ∷ [])

-- The answer for the line that should begin at `index`: its end, or its first wrong byte.
abbrev pub IsLineAnswer : (List ℕ → Type 0) → List ℕ → ℕ → Result ℕ WrongByte → Type 0
IsLineAnswer Is text index (Ok end) = IsLineTo Is text index end
IsLineAnswer Is text index (Err wrong) = IsLineWrongAt Is text index wrong.index

-- ---- the line end

at_once : (text : List ℕ) (index : ℕ) (Is : List ℕ → Type 0) → MayGoOn Is []
    → ((byte : ℕ) (after : List ℕ) → drop index text ≡ byte ∷ after → IsOff Is (byte ∷ []))
    → IsLineWrongAt Is text index index
at_once text index Is begins stops =
    record { part = []; joined = refl; size = omega arith; begins = begins; stops = stops }

no_end : (byte : ℕ) → fits_mark 10 byte ≡ false → fits_mark 13 byte ≡ false
    → IsOff (IsLineWithEnd []) (byte ∷ [])
no_end byte feed return = λ more ended. grind (arith, nat_tests)

no_feed : (byte : ℕ) → fits_mark 10 byte ≡ false → IsOff (IsLineWithEnd []) (13 ∷ byte ∷ [])
no_feed byte feed = λ more ended. grind (arith, nat_tests)

end_line : (line : List ℕ) → IsLineWithEnd [] line → IsPatternLine [] line
end_line line ended =
    ([], record { are_letters = record { count = refl; within = All-nil (λ l. l < 26) }; ended = ended })

end_begun : (part : List ℕ) → MayGoOn (IsLineWithEnd []) part → MayGoOn (IsPatternLine []) part
end_begun part (more, some, ended) = (more, some, end_line (part ++ more) ended)

end_off : (part : List ℕ) → IsOff (IsLineWithEnd []) part → IsOff (IsPatternLine []) part
end_off part off = λ more line. off more line.1.ended

end_cases : (text : List ℕ) (index : ℕ) (feed return both : Bool) → fits_at text 10 index ≡ feed
    → fits_at text 13 index ≡ return → fits_at text 10 (index + 1) ≡ both
    → IsLineAnswer (IsPatternLine []) text index
    (cond feed (Ok (index + 1))
    (cond return (cond both (Ok (index + 2)) (Err (record { index = index + 1; mark = 10 })))
    (Err (record { index = index; mark = 10 }))))
end_cases text index true return both a b c =
    let (byte, next, fit) = fits_next text 10 index a in
    let same : byte ≡ 10 = grind (arith, nat_tests) in
    record {
      line = 10 ∷ [];
      is = end_line (10 ∷ []) (inl refl);
      joined = next ∙ ap (λ b. b ∷ drop (index + 1) text) same;
      size = refl;
    }
end_cases text index false true true a b c =
    let (byte, next, fit) = fits_next text 13 index b in
    let (other, then, fits) = fits_next text 10 (index + 1) c in
    let place : index + 1 + 1 ≡ index + 2 = omega arith in
    let same : byte ≡ 13 = grind (arith, nat_tests) in
    let also : other ≡ 10 = grind (arith, nat_tests) in
    record { line = 13 ∷ 10 ∷ []; is = end_line (13 ∷ 10 ∷ []) (inr refl); joined = cc; size = refl }
end_cases text index false true false a b c =
    let (byte, next, fit) = fits_next text 13 index b in
    let same : byte ≡ 13 = grind (arith, nat_tests) in
    record {
      part = 13 ∷ [];
      joined = cc;
      size = refl;
      begins = end_begun (13 ∷ []) (end_open (13 ∷ []) (omega arith) (λ some. refl));
      stops = λ byte after next. end_off (13 ∷ byte ∷ [])
          (no_feed byte (unfit_next text after 10 (index + 1) byte c next));
    }
end_cases text index false false both a b c =
    at_once text index (IsPatternLine []) (end_begun [] (end_open [] (omega arith) (λ some. absurd (omega arith))))
    (λ byte after next. end_off (byte ∷ [])
    (no_end byte (unfit_next text after 10 index byte a next) (unfit_next text after 13 index byte b next)))

-- ---- the marks

-- a line with one more mark, and one more byte that fits it
longer_line : (mark byte : ℕ) (marks line : List ℕ) → fits_mark mark byte ≡ true → IsPatternLine marks line
    → IsPatternLine (mark ∷ marks) (byte ∷ line)
longer_line mark byte marks line fit (letters, filled) =
    let (more, whole, put) =
    line_on mark byte marks line (mark ∷ marks) (byte ∷ line) [] _ _ (Ok tt) refl refl fit refl
    (letters, filled, refl) in
    (more, whole)

shorter_line : (mark byte : ℕ) (marks letters line : List ℕ) → IsFilledLine (mark ∷ marks) letters (byte ∷ line)
    → IsPatternLine marks line
shorter_line mark byte marks letters line is =
    grind (arith, nat_tests, cases_Bool (mark == 95), All-drop (λ l. l < 26) 1 letters)

module _ (text : List ℕ) (mark : ℕ) (marks : List ℕ) (index : ℕ) where
  marks_more : (byte : ℕ) → drop index text ≡ byte ∷ drop (index + 1) text → fits_mark mark byte ≡ true
      → (answer : Result ℕ WrongByte) → IsLineAnswer (IsPatternLine marks) text (index + 1) answer
      → IsLineAnswer (IsPatternLine (mark ∷ marks)) text index answer
  marks_more byte next fit (Ok end) is = record {
    line = byte ∷ is.line;
    is = longer_line mark byte marks is.line fit is.is;
    joined = cc (next, is.joined);
    size = omega (arith, is.size);
  }
  marks_more byte next fit (Err wrong) is = record {
    part = byte ∷ is.part;
    joined = cc (next, is.joined);
    size = omega (arith, is.size);
    begins =
        let (more, some, line) = is.begins in (more, some, longer_line mark byte marks (is.part ++ more) fit line);
    stops = λ other after then more line. is.stops other after then more
        (shorter_line mark byte marks line.0 ((is.part ++ other ∷ []) ++ more) line.1);
  }

  marks_step : (fits : Bool) → fits_at text mark index ≡ fits
      → IsLineAnswer (IsPatternLine marks) text (index + 1) (line_end text marks (index + 1))
      → IsLineAnswer (IsPatternLine (mark ∷ marks)) text index
      (cond fits (marks_end text marks (index + 1)) (Err (record { index = index; mark = mark })) >>= end_of_line text)
  marks_step true fits is =
      let (byte, next, fit) = fits_next text mark index fits in
      marks_more byte next fit (line_end text marks (index + 1)) is
  marks_step false fits is = at_once text index (IsPatternLine (mark ∷ marks)) (line_open (mark ∷ marks) [] refl)
      (λ byte after next. line_off mark byte marks [] (mark ∷ marks) (byte ∷ []) refl refl
      (unfit_next text after mark index byte fits next))

pub line_answer : (text marks : List ℕ) (index : ℕ)
    → IsLineAnswer (IsPatternLine marks) text index (line_end text marks index)
unfolding end_of_line
line_answer text [] index = end_cases text index _ _ _ refl refl refl
line_answer text (mark ∷ marks) index =
    marks_step text mark marks index (fits_at text mark index) refl (line_answer text marks (index + 1))
