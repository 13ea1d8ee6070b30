use Rattle.plane_kernels.proofs.BytesLaws.{have_no_pad_bits, of_one_list, of_some_list}
use Rattle.plane_kernels.proofs.laws.bytes_are_exact.Goals as goal

pub returns : goal.returns
returns c = record { clean = have_no_pad_bits; one = of_one_list; some = of_some_list }
