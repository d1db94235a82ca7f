use Rattle.form_keep.proofs.Complete.{complete}
use Rattle.form_keep.proofs.laws.completeness.Goals as goal

pub returns : goal.returns
returns g c disk = complete c.one_list.ensures c.no_store.ensures (g.D.Disk.may_leave disk)
