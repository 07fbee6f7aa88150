use Rattle.std.proofs.Common.{◌≡◌, ◌+◌, ◌-◌, take, drop, sym, ap, ◌∙◌, arith}
use Rattle.std.proofs.lemmas.List.{drop-take}
use Rattle.kv_watch.proofs.SlowSteps.{listed_is_given}
use Rattle.kv_watch.proofs.audit.given.Goals as goal

pub returns-clause-ok : goal.returns-clause-ok
returns-clause-ok c =
    let writes = c.args.writes.now in
    let base = c.args.base in
    let end = c.args.end in
    let whole : base + (end - base) ≡ end = omega (arith, c.requires.began) in
    let behind : take (end - base) (drop base writes) ≡ drop base (take end writes) = sym (drop-take base (end - base) writes) ∙ ap (λ n. drop base (take n writes)) whole in
    rw behind at c.in_ok-events.ensures ∙ listed_is_given c.args.history base end writes c.args.filters.now c.args.options c.requires.began c.requires.written
