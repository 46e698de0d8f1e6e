use Rattle.std.proofs.Common.{◌≡◌, false, sym, ◌∙◌}
use Rattle.std.specs.Char.{is_ascii_uppercase}
use Rattle.std.specs.List.{list_all}
use Rattle.kd_slips.proofs.Finding.{no_value, on_err}
use Rattle.kd_slips.proofs.letters.check_capitals.Goals as goal

pub returns : goal.returns
returns c =
    let other : list_all is_ascii_uppercase c.args.text.now ≡ false =
    rw (← c.as_bytes.ensures.value) (sym c.are_capitals.ensures ∙ c.if-are_capitals.false) in
    record {
      capitals = no_value c.refuse.result _ c.refuse.ensures.refused;
      other = on_err c.refuse.result _ other;
      slip = c.refuse.ensures.slip;
    }
