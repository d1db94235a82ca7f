use Rattle.std.proofs.Common.{◌∙◌}
use Rattle.peer_tables.proofs.KeptLemmas.Advanced.{elements_before, few_before, reached_before, advanced, undone_is}
use Rattle.peer_tables.proofs.advance.advance.Goals as goal

pub sweep-undone-requires-clause-tables : goal.sweep-undone-requires-clause-tables
sweep-undone-requires-clause-tables g c = record {
  elements =
      elements_before _ _ _ _ _ _ _ _ c.op-2.ensures.value c.validated_by-validated.ensures c.version-version.ensures.value c.confirm.ensures
      c.requires;
  few =
      few_before _ _ _ _ _ _ _ _ c.op-2.ensures.value c.validated_by-validated.ensures c.version-version.ensures.value c.confirm.ensures
      c.requires;
}

pub sweep-undone-requires-clause-outside : goal.sweep-undone-requires-clause-outside
sweep-undone-requires-clause-outside g c =
    reached_before _ _ _ _ _ _ _ _ c.op-2.ensures.value c.validated_by-validated.ensures c.version-version.ensures.value c.confirm.ensures
    c.requires _ _ _ _ _ c.in_ok-push.ensures.ok c.op.ensures.value c.policy.ensures c.policy-2.ensures c.narrowed_reach-reach.ensures

pub returns-clause-kept : goal.returns-clause-kept
returns-clause-kept g c = λ R stamp kept known.
    advanced _ _ _ _ _ _ _ _ c.op-2.ensures.value c.validated_by-validated.ensures c.version-version.ensures.value c.confirm.ensures
    _ _ _ _ c.in_ok-push.ensures.ok c.policy-2.ensures c.sweep-undone.ensures.states c.sweep-undone.ensures.count
    R stamp kept known c.requires.follows _ _ _ _ c.op.ensures.value c.policy.ensures c.narrowed_reach-reach.ensures (c.deref.ensures.value ∙ c.in_ok-elements.ensures)
    _ c.mark_undone.ensures.marked c.mark_undone.ensures.unmarked

pub returns-clause-undone : goal.returns-clause-undone
returns-clause-undone g c = λ R stamp kept known.
    undone_is _ _ _ _ _ _ _ _ c.op-2.ensures.value c.validated_by-validated.ensures c.version-version.ensures.value c.confirm.ensures
    _ _ _ _ c.in_ok-push.ensures.ok c.policy-2.ensures c.sweep-undone.ensures.states c.sweep-undone.ensures.count
    R stamp kept known c.requires.follows
