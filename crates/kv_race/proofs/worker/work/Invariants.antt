use Rattle.std.proofs.Common.{◌≡◌, ◌≤◌, length, map, take, vec_capacity, vec_len}
use Rattle.kv_model.specs.Requests.{asked}
use Rattle.kv_race.specs.Working.{Works}
use Rattle.kv_race.proofs.worker.work.Given as goal

-- the requests so far were written, and there is room for the other answers
abbrev pub invariant-loop-n : goal.invariant-loop-n
invariant-loop-n g l = record {
  count : vec_len l.answers ≡ l.n;
  room : length l.requests ≤ vec_capacity l.answers;
  works : Works g.W.Writes.may_answer l.fn.desk (take l.n (map asked l.requests)) l.answers.items l.desk;
}
