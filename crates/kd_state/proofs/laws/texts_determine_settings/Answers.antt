use Rattle.kd_state.proofs.Lines.{lines_determine_settings, lists_have_no_fault, one_list_fault, texts_determine_lists}
use Rattle.kd_state.proofs.laws.texts_determine_settings.Goals as goal

pub returns : goal.returns
returns c = record {
  setting = lines_determine_settings;
  list = texts_determine_lists;
  no_fault = lists_have_no_fault;
  one_fault = one_list_fault;
}
