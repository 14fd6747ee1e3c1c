use Rattle.smx_filters.proofs.InMemoryLemmas.{in_memory}
use Rattle.smx_filters.proofs.laws.filters_end_in_memory.Goals as goal

pub returns : goal.returns
returns c = record {
  runs = λ fronts workers. in_memory _;
  checks = in_memory _;
  products = λ product. in_memory _;
}
