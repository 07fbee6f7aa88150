use Rattle.std.proofs.Common.{◌≡◌, ◌==◌, true, false, sym, ap, ◌∙◌}
use Rattle.std.specs.List.{list_any}
use Rattle.kv_model.specs.Retained.{kept, revisions}
use Rattle.kv_model.proofs.Found.{find_kept, find_unkept}
use Rattle.kv_store.proofs.Standings.{kept_before-is}
use Rattle.kv_store.proofs.version.Version.kept_write.Goals as goal

pub returns-then-is_kept : goal.returns-then-is_kept
returns-then-is_kept c = λ acts s.
    let v = c.args.self.now in let key = c.args.key.now in let r = c.args.revision in
    let test : list_any (λ n. n == r) (revisions (kept v.config.history key acts)) ≡ true = ap (list_any (λ n. n == r)) (sym (kept_before-is acts v key s)) ∙ sym c.is_kept.ensures ∙ c.if-is_kept.true in
    c.write_at.ensures.acts acts s ∙ find_kept v.config v.config.history key r acts s.lawful test

pub returns-else-is_kept : goal.returns-else-is_kept
returns-else-is_kept c = λ acts s.
    let v = c.args.self.now in let key = c.args.key.now in let r = c.args.revision in
    let test : list_any (λ n. n == r) (revisions (kept v.config.history key acts)) ≡ false = ap (list_any (λ n. n == r)) (sym (kept_before-is acts v key s)) ∙ sym c.is_kept.ensures ∙ c.if-is_kept.false in
    find_unkept v.config.history key r acts test
