use Rattle.kd_form.proofs.GivenBack.{gives_word, common_steps, filter_map-append, ℕ, IsTrue, All, sym, subst, length}
use Rattle.kd_form.proofs.GivenBack.{◌∙◌, arith, take_all, take-append_seam, is_text_byte, All-more}
use Rattle.kd_form.proofs.typing.chunk_letters.collect_letters.Goals as goal

pub loop-place-preserved : goal.loop-place-preserved
loop-place-preserved c =
    record {
      allowed =
          All-more (λ (byte : ℕ). IsTrue (is_text_byte byte))
          c.args.bytes.now c.loop-place.place 0 c.loop-place-test.true
          c.loop-place.invariant.allowed (sym c.is_text_byte.ensures ∙ c.if-not-is_text_byte.false);
      letters = grind (arith, common_steps, filter_map-append);
      room = omega (arith, c.push_some_letter.ensures.room, c.loop-place.invariant.room);
    }

pub returns-then-read_capitals-clause-allowed : goal.returns-then-read_capitals-clause-allowed
returns-then-read_capitals-clause-allowed c =
    let typed = gives_word c.read_capitals.new.letters c.if-read_capitals.ensures.within in
    record {
      within = omega arith;
      allowed =
          rw (take_all (length c.args.bytes.now) c.args.bytes.now (omega arith))
          (subst (All (λ b. IsTrue (is_text_byte b))) c.if-read_capitals.ensures.read typed.allowed);
      next = λ more. absurd (omega arith);
    }

pub returns-then-read_capitals-clause-letters : goal.returns-then-read_capitals-clause-letters
returns-then-read_capitals-clause-letters c = grind (arith, gives_word, take-append_seam, take_all)
