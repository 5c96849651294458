use Rattle.bench.proofs.histories.replay_on.Given as goal
use Rattle.bench.specs.Histories.{History, asked}
use Rattle.std.proofs.Common.{◌≡◌, map, length, take, drop}

-- the calls so far are a history from the new bench on, and the places for the other numbers are as they were
abbrev pub invariant-loop-i : goal.invariant-loop-i
invariant-loop-i g l =
    History g.B.Reading.Reading.kind g.B.Shown.means g.B.Book.rewrites (g.B.Shown.means l.initial.bench.book)
    (record { bench = l.initial.bench; list = l.initial.list; work = l.initial.work })
    (map (asked (length l.initial.work)) (take l.i l.calls)) (take l.i l.told)
    (record { bench = l.bench; list = l.list; work = l.work })
    × (drop l.i l.told ≡ drop l.i l.initial.told)
