-- The warnings about days that have fewer pairs, or fewer groups, than another day of their model.
-- Test: tests/cases/curator-sheet.toml
use Rattle.std.specs.Prelude.{decimal, ℕ, nat_lt, ◌==◌, ◌&&◌, not, Bool, List, [], ◌∷◌, ◌++◌, find, flat_map, length, if◌then◌else◌}
use Rattle.std.specs.List.{list_any}
use Rattle.std.specs.Option.{option_map_or}
use Rattle.kd_tables.specs.contracts.model.ModelPartialEq.TheImpl as model_eq
use Rattle.kd_tables.specs.declared.model.Model.TheVariants.{M209}
use Rattle.kd_state.specs.SheetDay.{Day, Rotor, Pin}
use Rattle.kd_language.specs.declared.language.Language.{Language}
use Rattle.kd_language.specs.Language.{text_in}
use Rattle.kd_language.specs.Template.{filled}
use Rattle.kd_slips.specs.declared.counts.Counted.{Counted}
use Rattle.kd_slips.specs.declared.counts.Counted.TheVariants.{Groups, Pairs}
use Rattle.kd_slips.specs.declared.counts.DayCounts.{DayCounts}
use Rattle.kd_slips.specs.declared.texts.TheConstants.{FEW, GROUP, GROUPS, NO, PAIR, PAIRS}

-- a day's numbers of pairs and groups; both are 0 on a Converter's day
abbrev pub counts_of : Day → DayCounts
counts_of (Rotor values) = record {
  day = values.day;
  model = values.model;
  pairs = length values.pairs;
  groups = length values.groups;
}
counts_of (Pin values) = record { day = values.day; model = M209; pairs = 0; groups = 0 }

abbrev pub count : Counted → DayCounts → ℕ
count Pairs day = day.pairs
count Groups day = day.groups

-- Whether `other` has more pairs than `day`. If `counted` is `Groups`, groups are compared instead. Only days of the
-- same model are compared.
abbrev pub has_more : Counted → DayCounts → DayCounts → Bool
has_more counted day other =
    (model_eq.ghosts).eq other.model day.model && nat_lt (count counted day) (count counted other)

-- Whether `other` has more pairs than `day`, and no day in `days` has more than `other`. If `counted` is `Groups`,
-- groups are compared instead. Only days of the same model are compared.
abbrev pub has_most : Counted → List DayCounts → DayCounts → DayCounts → Bool
has_most counted days day other = has_more counted day other && not (list_any (has_more counted other) days)

-- a space, then the noun for this number of pairs or groups
abbrev pub noun : Language → Counted → ℕ → List ℕ
noun l Pairs number = if number == 1 then text_in l PAIR else text_in l PAIRS
noun l Groups number = if number == 1 then text_in l GROUP else text_in l GROUPS

-- the words that give a number of pairs or groups, for example `no pairs`, `1 pair` or `2 pairs`
unfoldable pub count_words : Language → Counted → ℕ → List ℕ
count_words l counted number = (if number == 0 then text_in l NO else decimal number) ++ noun l counted number

-- the warning that `day` has fewer pairs, or fewer groups, than `most`, another day of its model
unfoldable pub few_words : Language → List ℕ → Counted → DayCounts → DayCounts → List ℕ
few_words l start counted day most =
    start ++ filled (text_in l FEW) (decimal day.day ∷ count_words l counted (count counted day)
    ∷ decimal most.day ∷ decimal (count counted most) ∷ [])

-- The warning that `day` has fewer pairs, or fewer groups, than another day of its model. Empty if no day of the model
-- has more. `counted` says whether pairs or groups are compared.
abbrev pub few_line : Language → List ℕ → List DayCounts → DayCounts → Counted → List ℕ
few_line l start days day counted =
    option_map_or (few_words l start counted day) (find (has_most counted days day) days) []

-- the warnings about a day: about its pairs, and about its groups
unfoldable pub day_lines : Language → List ℕ → List DayCounts → DayCounts → List ℕ
day_lines l start days day = few_line l start days day Pairs ++ few_line l start days day Groups

-- the warnings about all days; each warning begins with `start`
abbrev pub few_lines : Language → List ℕ → List DayCounts → List ℕ
few_lines l start days = flat_map (day_lines l start days) days
