-- The lines of a form, counted from 1.
use Rattle.std.specs.Prelude.{ℕ, ◌+◌, ◌-◌, ◌==◌, List, length, take}
use Rattle.std.specs.List.{count_by}
use Rattle.kd_lost.specs.Tidy.{tidied}

-- how many line ends are in `bytes`
abbrev pub line_breaks : List ℕ → ℕ
line_breaks bytes = count_by (λ byte. byte == 10) bytes

-- the line on which the first part of a form begins
abbrev pub heading_line : List ℕ → ℕ
heading_line form = line_breaks (take (length form - length (tidied form)) form) + 1
