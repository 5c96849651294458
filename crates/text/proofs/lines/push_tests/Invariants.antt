use Rattle.std.proofs.Common.{◌-◌}
use Rattle.text.proofs.lines.push_tests.Given as goal
use Rattle.text.specs.Grown.{Grown}
use Rattle.text.specs.Printed.{spaced}
use Rattle.text.specs.Sets.{tests_from}

-- the tests below `test` are written
abbrev pub invariant-loop-test : goal.invariant-loop-test
invariant-loop-test l = Grown l.initial.line (spaced (tests_from 1 (l.test - 1) l.tests)) l.line
