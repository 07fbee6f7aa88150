use Rattle.std.proofs.Common.{◌≡◌, All, map, take}
use Rattle.kv_race.proofs.agreeing.all_agree.Given as goal

-- the watches so far have seen the same
abbrev pub invariant-loop-n : goal.invariant-loop-n
invariant-loop-n g l = All (λ seen. seen ≡ l.reader.seen) (take l.n (map (λ end. end.reader.seen) l.ended))
