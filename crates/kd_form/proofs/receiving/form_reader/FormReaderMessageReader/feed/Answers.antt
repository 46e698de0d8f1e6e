use Rattle.kd_form.proofs.FormSteps.{err_is, first_longer, goes_on, HasReadSoFar-form, HoldsForm-byte, in_stage}
use Rattle.kd_form.proofs.FormSteps.{take_kept, ThenNext-tested, heading_refused, IsRefusedForGood-HasFaultForGood}
use Rattle.kd_form.proofs.FormSteps.{GoesOn, HasFault, HasFaultForGood-last_part, four_letters, HasFaultForGood-part}
use Rattle.kd_form.proofs.FormSteps.{HoldsForm-next_part, HasBegunHeading-snoc, not_begun, cut_at_headings-line}
use Rattle.kd_form.proofs.FormSteps.{ended_heading, bad_behind, ◌≢◌, take, All-push, All-nil, IsTrue, is_text_byte}
use Rattle.kd_form.proofs.FormSteps.{IsLineText, line_of, heading_words, [], ◌∷◌, ◌++◌, ◌+◌, ◌-◌, ◌≡◌, ℕ, List, length}
use Rattle.kd_form.proofs.FormSteps.{length-append, refl, inl, ap, subst, plaintext_bytes, BeginsHeading, NoHeading}
use Rattle.kd_form.proofs.FormSteps.{BadHeading, arith, sym, ◌∙◌, false≢true}
use Rattle.kd_form.specs.declared.receiving.form_reader.FormStage.TheVariants as stages
use Rattle.kd_form.proofs.receiving.form_reader.FormReaderMessageReader.feed.Goals as goal

pub returns-then-not-can_follow : goal.returns-then-not-can_follow
returns-then-not-can_follow c = λ form text so_far.
    let h = so_far.is in
    let there = in_stage h c.in-Heading.is in
    let (few, none) = not_begun h.last _ c.args.byte there.0.kept
    (λ fits. false≢true (sym c.if-not-can_follow.true ∙ c.can_follow.ensures.1 (rw c.as_slice.ensures.value fits))) in
    let (front, nil) = h.first (there.1 few) in
    IsRefusedForGood-HasFaultForGood (NoHeading
    (λ more begun. none more (subst (λ l. BeginsHeading ((l ++ c.args.byte ∷ []) ++ more))
    (rw front at h.joined) begun))
    (h.is ∙ ap (plaintext_bytes c.args.day.now) nil) (ap BadHeading (there.1 few)))

pub returns-then-byte-ne10 : goal.returns-then-byte-ne10
returns-then-byte-ne10 c = λ form text so_far.
    let h = so_far.is in
    let (there, first) = in_stage h c.in-Heading.is in
    let fits = rw c.as_slice.ensures.value at (c.can_follow.ensures.0 c.if-not-can_follow.false) in
    HasReadSoFar-form (HoldsForm-byte h (stages.Heading c.push_if_room.new.items) _ c.args.byte c.requires.empty
    (cut_at_headings-line h.last c.args.byte there.unbroken) (
      record {
        kept =
            c.push_if_room.ensures ∙ ap (λ l. take 64 (l ++ c.args.byte ∷ [])) there.kept
            ∙ take_kept 64 h.last (c.args.byte ∷ []);
        unbroken = All-push (λ b. b ≢ 10) h.last c.args.byte there.unbroken c.if-byte-ne10.true;
        begins = HasBegunHeading-snoc h.last _ c.args.byte there.kept there.begins fits;
      },
      λ few. first (omega (arith, length-append h.last (c.args.byte ∷ []))),
    ))

pub returns-then-not-is_text_byte : goal.returns-then-not-is_text_byte
returns-then-not-is_text_byte c = λ form text so_far.
    let h = so_far.is in
    let there = in_stage h c.in-Body.is in
    let holds = there.holds in
    let body : List ℕ = there.body ++ c.args.byte ∷ [] in
    let first = first_longer c.args.byte holds.first in
    let bad = sym c.is_text_byte.ensures ∙ c.if-not-is_text_byte.true in
    let start : ℕ = length h.front + (length (h.last ++ c.args.byte ∷ []) - length body) + 1 in
    let place : c.args.self.now.read + 1 ≡ start + length there.body =
    omega (arith, h.counted, ap length h.joined, length-append {A = ℕ}, ap length holds.first.joined) in
    HasFaultForGood-last_part h (c.args.byte ∷ []) (goes_on c.args.byte holds h.alone
    (λ digit. false≢true (sym c.if-not-is_next_heading_digit.true ∙ c.is_next_heading_digit.ensures.1 digit))) (
      (holds.line, body, first),
      rw place (GoesOn _ (record { is_heading = holds.is_heading; first = inl (holds.line, first, holds.text) })
          (GoesOn tt there.due (HasFault _ (bad_behind start there.body [] c.args.byte holds.allowed bad) refl))),
    )

pub returns-then-not-is_next_heading_digit : goal.returns-then-not-is_next_heading_digit
returns-then-not-is_next_heading_digit c = λ form text so_far.
    let h = so_far.is in
    let there = in_stage h c.in-Body.is in
    HasReadSoFar-form (HoldsForm-byte h (stages.Body c.push.new.self) _ c.args.byte c.requires.empty
    (goes_on c.args.byte there.holds h.alone
    (λ digit. false≢true (sym c.if-not-is_next_heading_digit.true ∙ c.is_next_heading_digit.ensures.1 digit)))
    (record {
      body = there.body ++ c.args.byte ∷ [];
      holds = c.push.ensures.body _ h.last there.body there.holds;
      due = rw c.push.ensures.heading there.due;
    }))

pub overflow_add-self-in-Body : goal.overflow_add-self-in-Body
overflow_add-self-in-Body c = grind (arith, in_stage)

pub decipher_into-requires-clause-heading : goal.decipher_into-requires-clause-heading
decipher_into-requires-clause-heading c = (in_stage c.requires.room.held.is c.in-Body.is).holds.is_heading

pub decipher_into-requires-clause-some : goal.decipher_into-requires-clause-some
decipher_into-requires-clause-some c =
    four_letters c.requires.room.held.is c.in-Body.is
    (c.is_next_heading_digit.ensures.0 c.if-not-is_next_heading_digit.false)

pub returns-in_ok-heading-in-Heading : goal.returns-in_ok-heading-in-Heading
returns-in_ok-heading-in-Heading c = λ form text so_far.
    let h = so_far.is in
    let there = (in_stage h c.in-Heading.is).0 in
    let (found, due) = ThenNext-tested c.in_ok-heading-in-Heading.ensures in
    let told =
    c.heading_of_ended_line-heading.ensures h.last there.unbroken (c.as_slice-in-Heading.ensures.value ∙ there.kept) in
    let (is_heading, text_is) = rw found at told in
    let heads = c.new.ensures.heading in
    rw c.if-byte-ne10.false (HasReadSoFar-form (HoldsForm-byte h (stages.Body c.new.result) _ 10 c.requires.empty
    (cut_at_headings-line h.last 10 there.unbroken) (record {
      body = [];
      holds = record {
        line = h.last;
        first = record { joined = refl; without = there.unbroken };
        text = subst (λ x. IsLineText h.last (line_of (heading_words x))) (sym heads) text_is;
        is_heading = rw heads is_heading;
        last = record {
          settled = [];
          tail = [];
          front = h.last;
          lines = refl;
          broken = refl;
          unbroken = All-nil (λ b. b ≢ 10);
          kept = c.new.ensures.line;
        };
        allowed = All-nil (λ b. IsTrue (is_text_byte b));
        kept = c.new.ensures.letters;
      };
      due = rw heads due;
    })))

pub returns-in_err-heading-in-Heading : goal.returns-in_err-heading-in-Heading
returns-in_err-heading-in-Heading c = λ form text so_far.
    let h = so_far.is in
    let there = (in_stage h c.in-Heading.is).0 in
    let ended =
    c.heading_of_ended_line-heading.ensures h.last there.unbroken (c.as_slice-in-Heading.ensures.value ∙ there.kept) in
    rw (err_is _ _ c.from_residual.ensures.1, c.if-byte-ne10.false)
    (HasFaultForGood-last_part h (10 ∷ []) (cut_at_headings-line h.last 10 there.unbroken) (
      (h.last, [], record { joined = refl; without = there.unbroken }),
      heading_refused (length h.front) _ (grind (arith, ended_heading, ended, there.unbroken))
          c.in_err-heading-in-Heading.ensures,
    ))

pub returns-in_ok-decipher_into-in-Body : goal.returns-in_ok-decipher_into-in-Body
returns-in_ok-decipher_into-in-Body c = λ form text so_far.
    HasReadSoFar-form (HoldsForm-next_part so_far.is c.in-Body.is
    (c.is_next_heading_digit.ensures.0 c.if-not-is_next_heading_digit.false)
    c.in_ok-decipher_into-in-Body.ensures.given c.heading_line_start.ensures)

pub returns-in_err-decipher_into-in-Body : goal.returns-in_err-decipher_into-in-Body
returns-in_err-decipher_into-in-Body c = λ form text so_far.
    rw (err_is _ _ c.from_residual-in_err-decipher_into-in-Body.ensures.1)
    (HasFaultForGood-part so_far.is c.in-Body.is
    (c.is_next_heading_digit.ensures.0 c.if-not-is_next_heading_digit.false)
    c.in_err-decipher_into-in-Body.ensures.given)
