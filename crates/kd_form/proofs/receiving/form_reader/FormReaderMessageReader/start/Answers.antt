use Rattle.kd_form.proofs.FormSteps.{HasReadSoFar-form, [], ◌≢◌, refl, inl, arith, All-nil}
use Rattle.kd_form.proofs.receiving.form_reader.FormReaderMessageReader.start.Goals as goal

pub returns : goal.returns
returns c = HasReadSoFar-form {s = c.args._day.now} {form = []} {text = []} (record {
  front = [];
  last = [];
  parts = [];
  letters = [];
  joined = refl;
  cuts = λ more. refl;
  alone = refl;
  begun = inl refl;
  first = λ one. (refl, refl);
  read = ((refl, refl), refl);
  is = refl;
  counted = refl;
  stage = (
    record { kept = c.new.ensures; unbroken = All-nil (λ b. b ≢ 10); begins = inl (0, omega arith, refl) },
    λ few. refl,
  );
})
