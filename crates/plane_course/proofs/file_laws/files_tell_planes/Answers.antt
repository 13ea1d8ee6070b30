use Rattle.plane_course.proofs.Files as files
use Rattle.plane_course.proofs.file_laws.files_tell_planes.Goals as goal

pub returns : goal.returns
returns c = files.files_tell_planes
