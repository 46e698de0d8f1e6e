-- The desk's answer for a message, made from the answer of typing, sending or receiving it.
use Rattle.kd_desk.proofs.Prelude.{arith, ◌≡◌, Result, Ok, Err, IsErrAnd, MatchResult, IsTrue, FormFault, Port}
use Rattle.kd_desk.proofs.Prelude.{FailureAgrees, DeskFault, answer_to_message, is_refused_before_message, is_device}
use Rattle.{kd_host.proofs.Failing.err_is, kd_desk.specs.Messages.fault_of_message}
use Rattle.kd_form.specs.Streams as streams
use Rattle.kd_form.specs.Streams.{is_off_key}

pub off_key : (told : Result (Unit {0}) FormFault) (answer : Result (Unit {0}) DeskFault)
    → answer ≡ answer_to_message told
    → IsTrue (is_refused_before_message answer) → IsTrue (is_off_key told)
off_key told answer is before = grind arith

pub FailureAgrees-passed_on : (source sink : Port) (told : Result (Unit {0}) FormFault)
    (answer : Result (Unit {0}) DeskFault)
    → answer ≡ answer_to_message told
    → FailureAgrees source sink (streams.is_device told) → FailureAgrees source sink (is_device answer)
FailureAgrees-passed_on source sink told answer is failed = grind arith

-- `map_err` gives the desk's fault for a message's fault
pub passed_on : (told : Result (Unit {0}) FormFault) (answer : Result (Unit {0}) DeskFault)
    → MatchResult told (λ x. answer ≡ Ok x) (λ e. IsErrAnd answer (λ made. made ≡ fault_of_message e))
    → answer ≡ answer_to_message told
passed_on (Ok done) answer is = is
passed_on (Err fault) answer made = err_is answer (fault_of_message fault) made
