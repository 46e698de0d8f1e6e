use Rattle.std.proofs.Common.{◌≡◌, ◌∙◌, sym, ap, subst, Option, MatchResult}
use Rattle.std.specs.Prelude.{option_copied}
use Rattle.kd_lost.specs.declared.form.DamagedFormFault.TheVariants.{NoMemory}
use Rattle.kd_lost.specs.declared.part.DamagedPart.{DamagedPart}
use Rattle.kd_lost.specs.DamagedForm.{IsReadOf}
use Rattle.kd_lost.specs.Repetitions.{completed_of, completed_with}
use Rattle.kd_lost.proofs.form.read_one.Goals as goal

pub returns-in_default : goal.returns-in_default
returns-in_default c =
    let copies = c.args.copies.now in
    let there = c.part_at.ensures in
    subst (λ (o : Option DamagedPart). MatchResult c.read_placed.result
    (λ read. IsReadOf c.args.day.now (completed_of copies o c.args.part.now) read × (read.line ≡ c.args.line))
    (λ fault. fault ≡ NoMemory)) (sym (ap option_copied c.in_default.is) ∙ there) c.read_placed.ensures

pub returns-in_default-shown_text : goal.returns-in_default-shown_text
returns-in_default-shown_text c =
    let copies = c.args.copies.now in
    let alone = c.in-Some.alone.now in
    let there = c.part_at.ensures in
    subst (λ (o : Option DamagedPart). MatchResult c.read_placed-in_default-shown_text.result
    (λ read. IsReadOf c.args.day.now (completed_of copies o c.args.part.now) read × (read.line ≡ c.args.line))
    (λ fault. fault ≡ NoMemory)) (sym (ap option_copied c.in-Some.is) ∙ there)
    (subst (λ t. MatchResult c.read_placed-in_default-shown_text.result
    (λ read. IsReadOf c.args.day.now (completed_with copies alone t c.args.part.now) read × (read.line ≡ c.args.line))
    (λ fault. fault ≡ NoMemory)) (sym c.in_default-shown_text.ensures) c.read_placed-in_default-shown_text.ensures)

pub returns : goal.returns
returns c =
    let copies = c.args.copies.now in
    let alone = c.in-Some.alone.now in
    let there = c.part_at.ensures in
    subst (λ (o : Option DamagedPart). MatchResult c.read_placed-2.result
    (λ read. IsReadOf c.args.day.now (completed_of copies o c.args.part.now) read × (read.line ≡ c.args.line))
    (λ fault. fault ≡ NoMemory)) (sym (ap option_copied c.in-Some.is) ∙ there)
    (subst (λ t. MatchResult c.read_placed-2.result
    (λ read. IsReadOf c.args.day.now (completed_with copies alone t c.args.part.now) read × (read.line ≡ c.args.line))
    (λ fault. fault ≡ NoMemory)) (sym c.in-Some-shown_text.ensures)
    (subst (λ b. MatchResult c.read_placed-2.result
    (λ read. IsReadOf c.args.day.now b read × (read.line ≡ c.args.line))
    (λ fault. fault ≡ NoMemory)) (c.as_slice.ensures.value ∙ c.in_ok-bytes.ensures) c.read_placed-2.ensures))
