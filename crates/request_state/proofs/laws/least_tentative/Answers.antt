use Rattle.std.proofs.Common.{not, ◌==◌, ◌&&◌}
use Rattle.element_name.specs.Name.{name_lt}
use Rattle.request_state.proofs.Least.{least_is_found, found_request}
use Rattle.request_state.proofs.laws.least_tentative.Goals as goal

pub returns : goal.returns
returns c = record {
  first = λ table h. least_is_found (λ n. not (n.site == 0)) table h;
  next = λ table above h. found_request (name_lt above) table h;
  next_of = λ table user above h. found_request (λ n. (n.site == user) && name_lt above n) table h;
}
