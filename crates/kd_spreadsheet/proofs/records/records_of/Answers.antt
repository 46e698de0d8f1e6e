use Rattle.std.proofs.Common.{◌∙◌, inr, refl, sym}
use Rattle.csv.specs.Reading.{Reached, strip_bom}
use Rattle.kd_spreadsheet.proofs.records.records_of.Goals as goal

pub returns : goal.returns
unfolding Reached
returns c =
    let fr = c.from_reader-rdr.ensures in
    let e = c.has_headers.ensures in
    let f = c.flexible.ensures in
    let d = c.delimiter.ensures in
    rw c.into_byte_records.ensures.rdr (record {
      untrimmed = rw (d, f, e) at fr.trim ∙ c.new.ensures.trim;
      ready = inr (inr (rw (d, f, e) at fr.has_headers, fr.headers));
      left = c.into_byte_records.ensures.left;
      config = rw (d, f, e, c.new.ensures.config, c.separator_of.ensures) at fr.config;
      rest = strip_bom c.args.table.now;
      source = fr.source;
      reached = (sym fr.state, refl);
    })
