-- A feed that goes on by refreshes.
use Rattle.std.proofs.Common.{◌≡◌, ◌⊎◌, ⊎_elim, List, inl, inr, refl, sym, ap, subst, ◌∙◌}
use Rattle.kv_model.specs.Acts.{Act, IsPrefix}
use Rattle.kv_bucket.specs.FeedState.{FeedState, IsRefreshed, IsNotRefreshed, WentOn}
use Rattle.kv_bucket.specs.ReaderState.{ReaderState}
use Rattle.kv_publish.proofs.Prefixes.{prefix_self, prefix_trans}

abbrev moved : FeedState → ReaderState → List Act → FeedState
moved feed reader acts = record feed { reader = reader; acts = acts }

pub went_nowhere : (feed : FeedState) → WentOn feed feed
went_nowhere feed = record { reader = (prefix_self feed.reader.seen, refl, refl); grows = prefix_self feed.acts; told = inr refl; same = refl }

pub went_further : (first then last : FeedState) → WentOn first then → WentOn then last → WentOn first last
went_further first then last p q = record {
  reader = (prefix_trans first.reader.seen then.reader.seen last.reader.seen p.reader.0 q.reader.0, q.reader.1 ∙ p.reader.1, q.reader.2 ∙ p.reader.2);
  grows = prefix_trans first.acts then.acts last.acts p.grows q.grows;
  told = ⊎_elim
      (λ (reached : IsPrefix then.reader.told last.acts). inl (subst (λ (told : List Act). IsPrefix told last.acts) p.reader.1 reached))
      (λ (stayed : last.acts ≡ then.acts). subst (λ (acts : List Act). IsPrefix first.reader.told acts ⊎ (acts ≡ first.acts)) (sym stayed) p.told)
      q.told;
  same = q.same ∙ ap (λ (f : FeedState). moved f last.reader last.acts) p.same;
}

pub went_by_refresh : (before after : FeedState) → IsRefreshed before after → WentOn before after
went_by_refresh before after step = record {
  reader = step.reader;
  grows = step.grows;
  told = inl step.told;
  same = step.same ∙ ap (moved before after.reader) (sym (ap (λ (f : FeedState). f.acts) step.same));
}

pub went_by_refusal : (before after : FeedState) → IsNotRefreshed before after → WentOn before after
went_by_refusal before after step =
    let stays : after.acts ≡ before.acts = ap (λ (f : FeedState). f.acts) step.same in record {
      reader = step.reader;
      grows = subst (IsPrefix before.acts) (sym stays) (prefix_self before.acts);
      told = inr stays;
      same = step.same ∙ ap (moved before after.reader) (sym stays);
    }
