-- The answer of the page for receiving, as a refusal.
use Rattle.std.proofs.Common.{◌≡◌, ◌∙◌, ℕ, [], IsErr, None, append-nil, take, length, List, Option, Some, Bool, true, false, Err, Ok, Result, ap, inl, inr, refl, subst, sym}
use Rattle.std.proofs.Math.Seq.{take-length}
use Rattle.std.proofs.lemmas.Bool.{false≢true}
use Rattle.std.specs.Io.KnownBytes.{Appends, Keeps}
use Rattle.kd_tables.specs.Ports.{Port, port}
use Rattle.kd_sheet.specs.Sheet.{day_of}
use Rattle.kd_spreadsheet.specs.Notes.{Tells, TellsText}
use Rattle.kd_pictures.specs.Drawing.{Draws}
use Rattle.kd_state.specs.declared.machine.parts.Parts.{Parts}
use Rattle.kd_state.specs.SheetDay.{Day}
use Rattle.kd_form.specs.OnTheKey.{IsReadyOnKey}
use Rattle.kd_language.specs.declared.language.Language.{Language}
use Rattle.kd_pictures.specs.declared.results.Results.{Results}
use Rattle.kd_lost.specs.declared.form.DamagedFormFault.{DamagedFormFault}
use Rattle.kd_lost.specs.declared.form.DamagedFormFault.TheVariants.{NoMemory, TooManyParts}
use Rattle.kd_message.specs.ReceivePage.{FormNotRead, IsFormNoted, IsReceivePageAnswer, NotNoted, Noted, ReceivedPageWritten, receive_notes}
use Rattle.kd_tables.specs.WriteFault.{is_device}
use Rattle.kd_tables.specs.declared.ports.write_fault.WriteFault.{WriteFault}
use Rattle.kd_curator.specs.MachineAndSheet.{IsAnswerOnSheet, machine_and_month}
use Rattle.kd_curator.specs.Notes.{HasFormNotes, IsLeftAlone}
use Rattle.kd_curator.specs.Refusals.{has_written, refused_by, refused_form, refused_whole}
use Rattle.kd_curator.specs.RunReceive.{Cut, NotRead, OfNothing, OfParts, Page, TellsOfForm, WritesReceivePage}
use Rattle.kd_curator.specs.declared.fault.PageFault.TheVariants.{NotWhole}
use Rattle.kd_curator.specs.declared.fault.Refused.{Refused}
use Rattle.kd_curator.proofs.Answers.{on_kept}
use Rattle.kd_curator.proofs.Runs.{left_alone}

-- what `write_receive_page` returns
abbrev pub Told : Type 0
Told = Result Bool (WriteFault DamagedFormFault)

abbrev pub receive_answer : Told → Result (Unit {0}) Refused
receive_answer (Ok true) = Ok tt
receive_answer (Ok false) = Err (refused_whole NotWhole)
receive_answer (Err fault) = Err (refused_by refused_form fault)

pub page_told : (results : Results) (l : Language) (day : Option Day) (m : Parts) (form : List ℕ) (sink : Port)
    (s : Day) → day ≡ Some s → IsReadyOnKey m s
    → (told : Told) → IsReceivePageAnswer results l s form sink told
    → WritesReceivePage results l day m form sink (receive_answer told)
page_told results l day m form sink s found ready (Ok true)
    (ReceivedPageWritten parts read few writes whole failed) =
    Page s found parts (record { ready = ready; read = read; few = few }) writes.whole
    (inl (whole.0 refl, refl))
page_told results l day m form sink s found ready (Ok false)
    (ReceivedPageWritten parts read few writes whole failed) =
    Page s found parts (record { ready = ready; read = read; few = few }) writes.whole
    (inr ((λ all. false≢true (whole.1 all)), refl))
page_told results l day m form sink s found ready (Err fault)
    (ReceivedPageWritten parts read few writes is failed) =
    Cut s found parts (record { ready = ready; read = read; few = few }) writes.front
    (ap (λ f. receive_answer (Err f)) is)
page_told results l day m form sink s found ready told (FormNotRead fault why is untouched) =
    NotRead s found ready fault why (ap receive_answer is)

not_written : (fault : DamagedFormFault) → has_written (Err (refused_form fault)) ≡ false
not_written NoMemory = refl
not_written TooManyParts = refl

-- what the page's call tells of the form
pub notes_told : (l : Language) (day : Option Day) (m : Parts) (form : List ℕ) (s : Day)
    (Holds : List ℕ → Type 0) → day ≡ Some s → IsReadyOnKey m s
    → (told : Told) → IsFormNoted l s form Holds told
    → TellsOfForm l day m form Holds (receive_answer told)
notes_told l day m form s Holds found ready told (Noted parts read tells) =
    OfParts s found ready parts read tells
notes_told l day m form s Holds found ready told (NotNoted fault is) =
    subst (λ a. TellsOfForm l day m form Holds (receive_answer a)) (sym is)
    (OfNothing refl (not_written fault))

-- -------- what standard error has taken

kept_whole : (had has : Option (List ℕ)) → Keeps had has → Appends had has []
kept_whole None has kept = tt
kept_whole (Some x) None kept = absurd kept
kept_whole (Some x) (Some y) kept = kept ∙ sym (append-nil x)

same_whole : (had : Option (List ℕ)) → Appends had had []
same_whole None = tt
same_whole (Some x) = sym (append-nil x)

module _ {E : Type 0} (taken : E → Option (List ℕ)) (failed : E → Bool) where
  -- nothing was told
  pub silent_tells : (old new : E) → new ≡ old → Tells (port taken failed old new)
  silent_tells old new same = subst (λ e. Tells (port taken failed old e)) (sym same) (record {
    text = [];
    written = same_whole (taken old);
    failed = λ is. is;
  })

  drawn_tells : (old new : E) (text : List ℕ) (before after : Bool) → failed old ≡ before → failed new ≡ after
      → Draws taken failed old new text → Tells (port taken failed old new)
  drawn_tells old new text true after was is drawn = let none = drawn.none was in record {
    text = [];
    written = kept_whole (taken old) (taken new) none.1;
    failed = λ _. none.0;
  }
  drawn_tells old new text false true was is drawn = let front = drawn.front was is in record {
    text = take front.0 text;
    written = front.2;
    failed = λ _. is;
  }
  drawn_tells old new text false false was is drawn = record {
    text = text;
    written = (drawn.whole is).1;
    failed = λ ill. absurd (false≢true (sym was ∙ ill));
  }

  -- the page's call told something
  pub form_tells : (l : Language) (s : Day) (form : List ℕ) (old new : E) (told : Told)
      → IsFormNoted l s form (λ text. Draws taken failed old new text) told
      → (IsErr told → is_device told ≡ false → new ≡ old) → Tells (port taken failed old new)
  form_tells l s form old new told (Noted parts read drawn) quiet =
      drawn_tells old new (receive_notes l s parts) (failed old) (failed new) refl refl drawn
  form_tells l s form old new told (NotNoted fault is) quiet =
      silent_tells old new (quiet (subst IsErr (sym is) refl) (ap is_device is))

  drawn_text : (old new : E) (text : List ℕ) (before after : Bool) → failed old ≡ before → failed new ≡ after
      → Draws taken failed old new text → TellsText (port taken failed old new) text
  drawn_text old new text true after was is drawn = let none = drawn.none was in record {
    whole = λ fine. absurd (false≢true (sym fine ∙ none.0));
    part = (0, kept_whole (taken old) (taken new) none.1);
  }
  drawn_text old new text false true was is drawn = let front = drawn.front was is in record {
    whole = λ fine. absurd (false≢true (sym fine ∙ is));
    part = (front.0, front.2);
  }
  drawn_text old new text false false was is drawn = let whole = (drawn.whole is).1 in record {
    whole = λ _. whole;
    part = (length text, subst (Appends (taken old) (taken new)) (sym (take-length text)) whole);
  }

  text_told : (l : Language) (day : Option Day) (m : Parts) (form : List ℕ) (old new : E)
      (answer : Result (Unit {0}) Refused)
      → TellsOfForm l day m form (λ text. Draws taken failed old new text) answer
      → TellsOfForm l day m form (TellsText (port taken failed old new)) answer
  text_told l day m form old new answer (OfParts s found ready parts read drawn) =
      OfParts s found ready parts read
      (drawn_text old new (receive_notes l s parts) (failed old) (failed new) refl refl drawn)
  text_told l day m form old new answer (OfNothing refused early) = OfNothing refused early

  -- the notes of `run_receive` are those of the command
  pub form_noted : (l : Language) (machine sheet : List ℕ) (number : ℕ) (form : List ℕ) (old new : E)
      (answer : Result (Unit {0}) Refused)
      → IsAnswerOnSheet machine sheet (λ m month. TellsOfForm l (day_of month number) m form
      (λ text. Draws taken failed old new text) answer) answer
      → (IsErr answer → has_written answer ≡ false → new ≡ old) → Tells (port taken failed old new)
      → HasFormNotes l machine sheet number form answer (port taken failed old new)
  form_noted l machine sheet number form old new answer told quiet tells = record {
    noted = on_kept (machine_and_month machine sheet) _ _ answer
        (λ both. text_told l (day_of both.1 number) both.0 form old new answer) told;
    quiet = λ refused early. subst (λ e. IsLeftAlone (port taken failed old e)) (sym (quiet refused early))
        (left_alone (taken old) (failed old));
    tells = tells;
  }
