-- How a program ends: the line that it writes to standard error, and its exit status.
-- Source: the table of the command line in docs/FORMATS.md.
-- Test: tests/cases/desk-words.toml, tests/cases/desk-program.toml
use Rattle.std.specs.Prelude.{codes, ◌≡◌, ℕ, ◌||◌, List, [], ◌∷◌, ◌++◌, Result, is_err}
use Rattle.kd_tables.specs.declared.ports.writing.Device.{Device}
use Rattle.kd_tables.specs.Ports.{Port}
use Rattle.kd_tables.specs.Writing.{Writes}

-- the line on standard error for the refusal `text`
abbrev pub refused_line : List ℕ → List ℕ
refused_line text = codes "refused " ++ text ++ 10 ∷ []

-- The program ends with the exit status `due`. Standard error takes the whole line. If standard error fails, it takes
-- only a prefix of the line.
pub record EndsWithLine (line : List ℕ) (due : ℕ) (errors : Port) (status : ℕ) : Type 0 where
  pub ends : status ≡ due
  pub written : Result (Unit {0}) Device
  pub told : Writes errors.had errors.has line written
  pub failed : errors.has_failed ≡ (errors.had_failed || is_err written)
