use Rattle.job_units.proofs.Counts.{counts_by}
use Rattle.job_units.proofs.FetchedUnits.{common_before, fetch_back, fetched_fits}
use Rattle.job_units.proofs.ReadBack.{body_tells_unit}
use Rattle.job_units.proofs.Works.{job_answer_fits, made_fits}
use Rattle.job_units.proofs.laws.unit_laws.Goals as goal

pub returns : goal.returns
returns c = record {
  back = fetch_back;
  common = common_before;
  form = fetched_fits;
  one = body_tells_unit;
  made = made_fits;
  counted = counts_by;
  answer = job_answer_fits;
}
