-- Whether a page for a message shows the results, or has worksheets.
use Rattle.std.specs.Prelude.{Bool, true, false}
use Rattle.kd_pictures.specs.declared.results.Results.{Results}
use Rattle.kd_pictures.specs.declared.results.Results.TheVariants.{LeftOpen, Shown}

-- whether the page leaves the results open, that is, has worksheets
abbrev pub are_open : Results → Bool
are_open Shown = false
are_open LeftOpen = true
