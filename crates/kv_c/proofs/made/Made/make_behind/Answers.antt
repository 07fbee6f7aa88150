use Rattle.std.proofs.Common.{rules, ◌≡◌, ℕ, false, ap, subst, ◌∙◌, length}
use Rattle.kv_c.specs.Chaining.{IsFrameBehind}
use Rattle.kv_c.specs.Filing.{is_stopped}
use Rattle.kv_c.specs.Waiting.{Leads, Waiting}
use Rattle.kv_c.specs.declared.filed.Filed.{Filed}
use Rattle.kv_c.proofs.Joined.{accepts_behind, few_wait, leads_behind, made_more, not_failed}
use Rattle.kv_journal.specs.Records.{did}
use Rattle.kv_model.specs.Acts.{Wrote}
use Rattle.kv_model.specs.Requests.{asked, write_for}
use Rattle.kv_store.specs.Stored.{Stored}
use Rattle.kv_c.proofs.made.Made.make_behind.Goals as goal

pub join-requires-clause-leads : goal.join-requires-clause-leads
join-requires-clause-leads c =
    let w = c.args.self.now in
    let r = c.in_ok-ready in
    let config = r.ensures.config ∙ ap (λ (v : Stored). v.config) c.version_behind.ensures in
    let accepts = accepts_behind w c.version_behind.result.now c.args.request.now r.ready.next c.version_behind.ensures r.ensures.accepts in
    leads_behind w c.args.request.now r.ready.next config accepts (subst (λ (x : Waiting). Leads x.bucket x.next) c.self.view_is c.self.invariant)

pub returns-clause-ok : goal.returns-clause-ok
returns-clause-ok c =
    let w = c.args.self.now in
    let r = c.in_ok-ready in
    let config = r.ensures.config ∙ ap (λ (v : Stored). v.config) c.version_behind.ensures in
    let accepts = accepts_behind w c.version_behind.result.now c.args.request.now r.ready.next c.version_behind.ensures r.ensures.accepts in
    let own = ap (λ (x : Waiting). x.filed) c.self.view_is in
    let own_many : c.len.result ≡ length c.self.inside.bytes.items = search rules in
    let many = own_many ∙ ap (λ (x : Waiting). length x.bytes) c.self.view_is in
    let frame = subst (λ (n : ℕ). (revision : ℕ) → IsFrameBehind w.filed n (did (Wrote (write_for (asked c.args.request.now) revision))) r.ready.frames.items) many
    (subst (λ (f : Filed). (revision : ℕ) → IsFrameBehind f c.len.result (did (Wrote (write_for (asked c.args.request.now) revision))) r.ready.frames.items) own r.ensures.frame) in
    let works = not_failed w.filed (subst (λ (f : Filed). is_stopped f ≡ false) own r.ensures.goes) in
    made_more r.ready w c.join.new.self c.in_ok-join.ensures.ok c.args.request.now config accepts frame (few_wait w c.requires) r.ensures.told works
