use Rattle.std.proofs.Common.{◌≡◌, ℕ, List, ◌++◌, Result, ap, ◌∙◌}
use Rattle.std.specs.Prelude.{IfOk}
use Rattle.std.specs.List.{flat_map}
use Rattle.kv_keys.specs.declared.error.KvError.{KvError}
use Rattle.kv_store.specs.declared.listing.Gather.{Gather}
use Rattle.kv_store.specs.Stored.{KeyHistory}
use Rattle.kv_store.specs.inside.Selected.{initial_of}
use Rattle.kv_store.proofs.Gathering.{gathered}
use Rattle.kv_store.proofs.Outcomes.{was_ok}
use Rattle.kv_store.proofs.listing.walked.Goals as goal

pub returns : goal.returns
returns g c =
    let held : Gather g.row.W.Denot → List ℕ = λ w. w.found.items in
    let wants = g.W.Wanted.wants_key in
    let more : Gather g.row.W.Denot → List ℕ × KeyHistory → List ℕ = λ w p. initial_of (wants w.wanted.now) w.start p in
    let shows : Gather g.row.W.Denot → List ℕ → KeyHistory → Result (Unit {0}) KvError → Gather g.row.W.Denot → Type 0 = λ a k v result b.
    (b.wanted ≡ a.wanted) × (b.start ≡ a.start) × IfOk result (λ _. b.found.items ≡ a.found.items ++ more a (k, v)) in
    let start : Gather g.row.W.Denot = record { wanted = c.args.wanted; start = c.args.start; found = c.new.result } in
    let goes = rw (was_ok _ c.each.result c.map_err.result c.in_ok-map_err.was c.map_err.ensures.cases) at c.each.ensures.goes in
    let all = gathered shows held more (λ a k v b h. (h.2, λ p. ap (λ q. initial_of (wants q.now) b.start p) h.0 ∙ ap (λ s. initial_of (wants a.wanted.now) s p) h.1)) c.args.by_key.now start c.each.new.visitor goes in
    all ∙ ap (λ l. l ++ flat_map (initial_of (wants c.args.wanted.now) c.args.start) c.args.by_key.now) c.new.ensures.items
