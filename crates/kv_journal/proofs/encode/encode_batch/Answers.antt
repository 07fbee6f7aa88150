use Rattle.std.proofs.Common.{◌≡◌, ℕ, List, [], ◌∷◌, ◌++◌, length, map, ap, ◌∙◌, arith, append_assoc, length-append}
use Rattle.std.specs.Int.{w32, to_be_bytes}
use Rattle.kv_model.specs.Requests.{asked}
use Rattle.kv_journal.specs.Records.{asked_records}
use Rattle.kv_journal.proofs.Parts.{all_pushed, pushed}
use Rattle.kv_journal.proofs.encode.encode_batch.Goals as goal

pub loop-request-init : goal.loop-request-init
loop-request-init c =
    let front : c.push.new.self.items ≡ to_be_bytes w32 c.args.loose ++ (10 ∷ []) =
    c.in_ok-push.ensures.items ∙ ap (λ (xs : List ℕ). xs ++ 10 ∷ [])
    (c.in_ok-extend_from_slice.ensures.items ∙ ap (λ (xs : List ℕ). xs ++ c.to_be_bytes.result) c.new-bytes.ensures.items ∙ c.to_be_bytes.ensures) in
    record {
      all = ap (λ (xs : List ℕ). xs ++ asked_records (map asked c.args.requests.now)) front
          ∙ append_assoc (to_be_bytes w32 c.args.loose) (10 ∷ []) (asked_records (map asked c.args.requests.now));
      some = omega (arith, ap (λ (xs : List ℕ). length xs) front);
      few = omega (arith, ap (λ (xs : List ℕ). length xs) front);
    }

pub loop-request-preserved : goal.loop-request-preserved
loop-request-preserved c =
    let inv = c.loop-request.invariant in
    record {
      all = pushed (to_be_bytes w32 c.args.loose ++ (10 ∷ asked_records (map asked c.args.requests.now))) c.loop-request.bytes.items c.push_some.new.out.items c.in-Some.request.now
          c.loop-request.rest.now c.in-Some.more.now c.in-Some.ensures.cases.0 inv.all c.in_ok-push_some.ensures.items;
      some = omega (arith, inv.some, ap (λ (xs : List ℕ). length xs) c.in_ok-push_some.ensures.items, length-append c.loop-request.bytes.items (asked_records (asked c.in-Some.request.now ∷ [])));
      few = c.in_ok-push_some.ensures.few;
    }

pub returns-clause-items : goal.returns-clause-items
returns-clause-items c =
    all_pushed (to_be_bytes w32 c.args.loose ++ (10 ∷ asked_records (map asked c.args.requests.now))) c.loop-request.bytes.items c.loop-request.rest.now c.in_default.ensures.cases c.loop-request.invariant.all
