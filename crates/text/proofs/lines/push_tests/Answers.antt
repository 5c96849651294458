use Rattle.std.proofs.Common.{arith}
use Rattle.std.proofs.lemmas.Grind.{common_steps}
use Rattle.text.proofs.Puts.{sets_on}
use Rattle.text.proofs.Spacing.{tests_next, tests_none}
use Rattle.text.proofs.Widths.{room_for_test}
use Rattle.text.proofs.lines.push_tests.Goals as goal

pub loop-test-init : goal.loop-test-init
loop-test-init c = grind (arith, tests_none)

pub push_test-requires : goal.push_test-requires
push_test-requires c = grind (arith, room_for_test)

pub loop-test-preserved : goal.loop-test-preserved
loop-test-preserved c = grind (arith, common_steps, tests_next, sets_on)
