use Rattle.std.specs.Prelude.{unwrap_or}
use Rattle.std.proofs.Common.{[], ap, inr, map, option_map, refl, sym, ◌∙◌, Bor, List, ℕ}
use Rattle.kd_curator.specs.OutputFile.{ToFile, ToSink}
use Rattle.kd_curator.proofs.OutputFiles.{lacking, other_carried}
use Rattle.kd_curator.proofs.Runs.{left_alone}
use Rattle.kd_curator.proofs.program.run_curator.Goals as goal

pub returns-in-Some : goal.returns-in-Some
returns-in-Some g c =
    let words = map g.S.AsStr.text c.args.words.now in
    let named = ap (option_map (λ (name : Bor (List ℕ)). name.now)) c.in-Some.is in
    let spoken = c.unwrap_or.ensures ∙ ap (λ asked. unwrap_or asked c.args.language) c.in-Ok.ensures.language in
    ToFile c.in-Some.name.now (sym c.in-Ok.ensures.output ∙ named) _ c.in-Ok.ensures.said refl
    (c.run_to_file-status.ensures c.args.language words
    (record { said = c.in-Ok.ensures.said; language = spoken }))

pub returns-in-None : goal.returns-in-None
returns-in-None g c =
    let words = map g.S.AsStr.text c.args.words.now in
    let none = ap (option_map (λ (name : Bor (List ℕ)). name.now)) c.in-None.is in
    let spoken = c.unwrap_or.ensures ∙ ap (λ asked. unwrap_or asked c.args.language) c.in-Ok.ensures.language in
    ToSink (c.run_to_sink.ensures c.args.language words (record { said = c.in-Ok.ensures.said; language = spoken })
    (sym c.in-Ok.ensures.output ∙ none)) refl

pub returns-in-Err : goal.returns-in-Err
returns-in-Err g c =
    let words = map g.S.AsStr.text c.args.words.now in
    let other = c.answer_other_words-answer.ensures in
    let taken = g.W.Sink.taken in
    let has_failed = g.W.Sink.has_failed in
    let new = c.answer_other_words-answer.new.sink in
    let lacks = lacking words _ _ c.requires (other.why words c.in-Err.ensures.none) in
    ToSink (record {
      left = [];
      answer = c.answer_other_words-answer.result;
      told = g.E.Sink.taken c.args.errors.now;
      failed = g.E.Sink.has_failed c.args.errors.now;
      names = [];
      language = c.language_without_command-language.result;
      is_so = (
        inr lacks,
        record {
          carried = other_carried c.args.language words (g.F.Files.known c.args.files.now) (g.F.Files.asked c.args.files.now)
              (taken c.args.sink) (taken new) (has_failed c.args.sink) (has_failed new) _
              c.answer_other_words-answer.result c.requires
              (other.carried c.args.language words (g.F.Files.known c.args.files.now) _ (left_alone _ _)
              c.in-Err.ensures.none);
          untouched = other.untouched;
          failed = other.failed;
        },
      );
      named = inr other.nothing;
      spoken = inr (lacks, c.language_without_command-language.ensures);
      ends = c.end_program.ensures;
    }) refl
