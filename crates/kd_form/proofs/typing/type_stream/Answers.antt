use Rattle.kd_form.proofs.OneText.{bytes_faults, arith}
use Rattle.kd_form.proofs.Streaming.{err_is, HasReadSoFar-typed, [], refl, sym, ap, ◌∙◌, All-nil, IsTrue, is_text_byte}
use Rattle.kd_form.proofs.Streaming.{letters_text, typed_letters, cipher, engine_cipher, false≢true, NotReady}
use Rattle.kd_form.proofs.Streaming.{FaultBefore}
use Rattle.kd_form.proofs.typing.type_stream.Goals as goal

pub stream_message-requires : goal.stream_message-requires
stream_message-requires g c =
    HasReadSoFar-typed c.args.machine.now _ [] [] (record {
      counted = refl;
      allowed = All-nil (λ b. IsTrue (is_text_byte b));
      behind = λ more. ap letters_text (sym (engine_cipher _ (typed_letters more))
          ∙ ap (λ k. cipher k (typed_letters more)) (sym c.in_ok-engine.ensures.key));
    })

pub returns-in_err-engine-clause-streamed : goal.returns-in_err-engine-clause-streamed
returns-in_err-engine-clause-streamed g c =
    rw (err_is _ _ c.from_residual.ensures.1)
    (FaultBefore NotReady (λ ready. false≢true (c.in_err-engine.ensures.ready.1 ready), refl) refl
    (record { has = refl; well = refl }) (record { has = refl; well = refl }))

pub returns-clause-untouched : goal.returns-clause-untouched
returns-clause-untouched g c = grind (arith, (bytes_faults 1 c.stream_message.ensures.read).are)

pub returns-clause-failed : goal.returns-clause-failed
returns-clause-failed g c = grind (arith, (bytes_faults 1 c.stream_message.ensures.read).are)
