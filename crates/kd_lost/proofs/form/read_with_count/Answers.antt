use Rattle.std.proofs.Common.{◌∙◌, refl, rules, sym}
use Rattle.kd_lost.specs.ByCount.{GivesByCount, is_count_doubted, part_line}
use Rattle.kd_lost.proofs.form.read_with_count.Goals as goal

pub returns : goal.returns
returns c =
    let read = c.read_damaged_part-read.result in
    let by_count : GivesByCount (is_count_doubted read.text (part_line read)) c.args.day.now c.args.part.now read.came
    read.numbers c.numbers_by_count-read.result c.in-Ok.found =
    rw (sym c.is_count_doubted.ensures ∙ c.if-not-is_count_doubted.false)
    (_, c.in-Ok.ensures, c.numbers_by_count-read.ensures) in
    search rules

pub returns-then-not-is_count_doubted : goal.returns-then-not-is_count_doubted
returns-then-not-is_count_doubted c =
    let read = c.read_damaged_part-read.result in
    let by_count : GivesByCount (is_count_doubted read.text (part_line read)) c.args.day.now c.args.part.now read.came
    read.numbers read.numbers read.by_count =
    rw (sym c.is_count_doubted.ensures ∙ c.if-not-is_count_doubted.true)
    (c.read_damaged_part-read.ensures.by_count, refl) in
    search rules
