use Rattle.std.proofs.Common.{[], ◌∙◌, length, ap, sym, subst, arith}
use Rattle.std.specs.Map.{lookup}
use Rattle.std.specs.BTreeMap.{is_at, insert_entry}
use Rattle.std.proofs.lemmas.List.{append-nil, get_or_default}
use Rattle.name_index.specs.Chunks.{flat, IsOrdered, IsPast, IsSpot}
use Rattle.name_index.proofs.Changes.{insert-past, lookup-past}
use Rattle.name_index.proofs.map.insert_in.Goals as goal

pub returns-then-is_behind-clause-ok : goal.returns-then-is_behind-clause-ok
returns-then-is_behind-clause-ok g c =
    let es = flat c.args.chunks.now.items in
    let past = subst (λ cs. IsPast (g.K.Ord.cmp c.args.key) (flat cs)) c.deref.ensures.value (c.is_behind.ensures.past c.if-is_behind.true) in
    record {
      entries = c.in_ok-append.ensures.ok ∙ sym (insert-past g.K.Ord.cmp c.args.key [] c.args.value es past) ∙ ap (λ fs. insert_entry g.K.Ord.cmp fs c.args.key c.args.value) (append-nil es);
      answer = sym (lookup-past g.K.Ord.cmp c.args.key [] es past) ∙ ap (lookup (is_at (g.K.Ord.cmp c.args.key))) (append-nil es);
    }

pub insert_at-requires : goal.insert_at-requires
insert_at-requires g c = record {
  ordered = c.requires.ordered;
  spot = subst (λ cs. IsSpot (g.K.Ord.cmp c.args.key) cs c.spot-c.result) c.deref-2.ensures.value c.spot-c.ensures;
}

pub staying-at-requires : goal.staying-at-requires
staying-at-requires g c =
    let spot = subst (λ cs. IsSpot (g.K.Ord.cmp c.args.key) cs c.spot-c.result) c.deref-2.ensures.value c.spot-c.ensures in
    let same = c.index.ensures ∙ get_or_default c.args.chunks.now.items c.spot-c.result c.index.result.now c.index-2.result.now spot.within ∙ sym c.index-2.ensures in
    omega (arith, ap length same, c.len.ensures, c.if-len-lt-CHUNK.false)

pub cut-requires-clause-within : goal.cut-requires-clause-within
cut-requires-clause-within g c = λ d.
    let spot = subst (λ cs. IsSpot (g.K.Ord.cmp c.args.key) cs c.spot-c.result) c.deref-2.ensures.value c.spot-c.ensures in
    let same = c.index-2.ensures ∙ get_or_default c.args.chunks.now.items c.spot-c.result c.index-2.result.now d spot.within in
    omega (arith, ap length same, c.staying-at.ensures.fewer)

pub insert_at-requires-2 : goal.insert_at-requires-2
insert_at-requires-2 g c = record {
  ordered = subst (IsOrdered g.K.Ord.cmp) (sym c.in_ok-cut.ensures.entries) c.requires.ordered;
  spot = subst (λ cs. IsSpot (g.K.Ord.cmp c.args.key) cs c.spot-c-2.result) c.deref-3.ensures.value c.spot-c-2.ensures;
}
