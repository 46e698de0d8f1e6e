use Rattle.kd_state.proofs.Prelude.{BeginsWithSettingLines, length, ◌≤◌}
use Rattle.kd_state.proofs.setting.list.split_settings.Given as goal

abbrev pub invariant-loop-setting : goal.invariant-loop-setting
invariant-loop-setting l =
    record { begins : BeginsWithSettingLines l.text l.settings.items l.rest; few : length l.settings.items ≤ 192 }

abbrev pub decreases-loop-setting : goal.decreases-loop-setting
decreases-loop-setting l = length l.rest
