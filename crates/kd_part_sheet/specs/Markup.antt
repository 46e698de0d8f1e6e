-- The signs and the markup in the cells of a part's sheet, given here byte by byte.
-- Source: HTML, html.spec.whatwg.org; Unicode, unicode.org.
-- Test: tests/cases/curator-messages.toml
use Rattle.std.specs.Prelude.{codes, ℕ, List, [], ◌∷◌, ◌++◌}

-- a no-break space, U+00A0, in UTF-8
abbrev pub wide_space : List ℕ
wide_space = 194 ∷ 160 ∷ []

-- the signs for no letter, for a lost letter, and for a letter that is struck out
abbrev pub no_letter : List ℕ
no_letter = wide_space

abbrev pub lost_letter : List ℕ
lost_letter = codes "?"

abbrev pub struck_out : List ℕ
struck_out = codes "-"

-- separators in lists: a space, two no-break spaces, and a comma with a space
abbrev pub space : List ℕ
space = codes " "

abbrev pub two_spaces : List ℕ
two_spaces = wide_space ++ wide_space

abbrev pub comma : List ℕ
comma = codes ", "

-- The markup of a group, in this order: the group's start, the end of the signs above the line to write on, small
-- print, marks, and the group's end. Small print and marks each have a start and an end.
abbrev pub group_start : List ℕ
group_start = codes "<span><b>"

abbrev pub above_end : List ℕ
above_end = codes "</b>"

abbrev pub small : List ℕ
small = codes "<small>"

abbrev pub small_end : List ℕ
small_end = codes "</small>"

abbrev pub cell_marks : List ℕ
cell_marks = codes "<i>"

abbrev pub marks_end : List ℕ
marks_end = codes "</i>"

abbrev pub group_end : List ℕ
group_end = codes "</span>"
