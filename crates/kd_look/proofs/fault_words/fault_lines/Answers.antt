use Rattle.std.proofs.Common.{◌≡◌, arith, map, subst}
use Rattle.std.specs.String.{string_bytes}
use Rattle.toml.specs.View.{table_view}
use Rattle.kd_findings.specs.Faults.{faults_of}
use Rattle.kd_look.proofs.FaultLines.{AreLinesFor-document}
use Rattle.kd_look.specs.FaultWords.{AreFaultLines}
use Rattle.kd_look.specs.Line.{line_of}
use Rattle.kd_findings.specs.Texts.{AppendsText}
use Rattle.kd_look.proofs.fault_words.fault_lines.Goals as goal

pub returns : goal.returns
returns c =
    let l = c.args.wording.language in
    let name = c.args.name.now in
    let bytes = c.args.bytes.now in
    let empty = string_bytes c.new-text.result in
    let text = string_bytes c.push_findings.new.text in
    let found = c.in_ok-findings.ensures in
    let of_lines : c.as_slice-3.result.now ≡ map (line_of bytes) c.as_slice-2.result.now =
    grind (
      arith,
      c.as_slice-3.ensures.value,
      c.in_ok-lines.ensures,
      c.as_slice.ensures.value,
      c.as_slice-2.ensures.value,
    ) in
    let lines = subst (λ list. AppendsText (AreFaultLines l name bytes (faults_of list)) empty text)
    c.as_slice-2.ensures.value (c.in_ok-push_findings.ensures bytes of_lines) in
    AreLinesFor-document l name bytes text empty (table_view c.args.document.now) c.args.fault
    (faults_of c.in_ok-findings.findings.items) c.requires found.faults found.first c.new-text.ensures.bytes lines
